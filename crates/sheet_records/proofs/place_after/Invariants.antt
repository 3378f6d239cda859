-- `sheet_records::place_after` meets its contract. The loop's invariant is `Passing`. Assumes nothing.
use Prim.Native.Nat.{◌-◌}
use Rattle.sheet_fields.proofs.Passing.{Passing}
use Rattle.sheet_records.proofs.place_after.Given as goal

abbrev pub invariant-loop : goal.invariant-loop
invariant-loop l = Passing l.count l.text l.at l.next l.counter

abbrev pub decreases-loop : goal.decreases-loop
decreases-loop l = l.count - l.counter
