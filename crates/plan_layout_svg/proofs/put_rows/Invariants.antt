-- `plan_layout_svg::put_rows` meets its contract: the invariant is that the rows that are left end the grid. Assumes nothing.
use Rattle.name_strands.specs.Names.{strand_names_of}
use Rattle.plan_layout_svg.proofs.Rows.{Grid}
use Rattle.plan_layout_svg.proofs.put_rows.Given as goal

abbrev pub invariant-loop-row : goal.invariant-loop-row
invariant-loop-row l =
    Grid (strand_names_of l.shown.names) l.shown.layout.now l.shown.marks.now l.shown.cols l.rows l.initial.out l.at l.out l.next l.bay l.row
