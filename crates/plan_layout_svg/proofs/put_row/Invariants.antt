-- `plan_layout_svg::put_row` meets its contract: the invariant is that the bays that are left end the row. Assumes nothing.
use Rattle.name_strands.specs.Names.{strand_names_of}
use Rattle.plan_layout_svg.proofs.Rows.{Row}
use Rattle.plan_layout_svg.proofs.put_row.Given as goal

abbrev pub invariant-loop-col : goal.invariant-loop-col
invariant-loop-col l =
    Row (strand_names_of l.shown.names) l.shown.layout.now l.shown.marks.now l.row l.first l.shown.cols l.initial.out l.at l.out l.next l.col
