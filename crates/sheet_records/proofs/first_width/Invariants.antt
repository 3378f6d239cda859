-- `sheet_records::first_width` meets its contract. The loop's invariant is `Counting`. Assumes nothing.
use Prim.Native.Nat.{◌+◌, ◌-◌}
use Rattle.units.specs.Limits.{most_side}
use Rattle.sheet_records.proofs.Widths.{Counting}
use Rattle.sheet_records.proofs.first_width.Given as goal

abbrev pub invariant-loop-width : goal.invariant-loop-width
invariant-loop-width l = Counting l.text l.next l.width

abbrev pub decreases-loop-width : goal.decreases-loop-width
decreases-loop-width l = most_side + 1 - l.width
