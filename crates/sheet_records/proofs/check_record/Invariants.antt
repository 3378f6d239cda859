-- `sheet_records::check_record` meets its contract. The loop's invariant is `InRecord`: the fields passed are the record's first ones, without a
-- fault. Assumes nothing.
use Prim.Native.Nat.{◌-◌}
use Rattle.sheet_fields.specs.Runs.{is_sound}
use Rattle.sheet_fields.proofs.Faults.{InRecord}
use Rattle.sheet_records.proofs.check_record.Given as goal

abbrev pub invariant-loop-i : goal.invariant-loop-i
invariant-loop-i l = InRecord is_sound l.width l.text l.at l.next l.i

abbrev pub decreases-loop-i : goal.decreases-loop-i
decreases-loop-i l = l.width - l.i
