-- `plan_layout_text::put_layout`: the rows that are left end the grid. Assumes nothing.
use Prim.Native.Nat.{◌-◌}
use lib.ListN.{drop}
use Rattle.name_strands.specs.Names.{strand_names_of}
use Rattle.text_put.proofs.Putting.{Ending}
use Rattle.plan_layout_text.specs.Grid.{rows_text}
use Rattle.plan_layout_text.proofs.put_layout.Given as goal

abbrev pub invariant-loop : goal.invariant-loop
invariant-loop l =
    let n = strand_names_of l.names in
    Ending l.initial.out l.at (rows_text n l.width l.cols l.layout l.rows) (rows_text n l.width l.cols (drop l.bay l.layout) (l.rows - l.counter)) l.out l.next
