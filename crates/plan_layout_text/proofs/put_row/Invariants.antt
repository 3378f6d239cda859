-- `plan_layout_text::put_row`: what is left of the row ends it. Assumes nothing.
use lib.ListN.{drop}
use Rattle.name_strands.specs.Names.{strand_names_of}
use Rattle.text_put.proofs.Putting.{Ending}
use Rattle.plan_layout_text.specs.Grid.{row_text}
use Rattle.plan_layout_text.proofs.put_row.Given as goal

abbrev pub invariant-loop-left : goal.invariant-loop-left
invariant-loop-left l =
    let n = strand_names_of l.shown.names in
    Ending l.initial.out l.at (row_text n l.shown.width (drop l.first l.shown.layout.now) l.shown.cols) (row_text n l.shown.width (drop l.bay l.shown.layout.now) l.left) l.out l.next
