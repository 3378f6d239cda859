-- `sheet_records::check_table` meets its contract. The loop's invariant is `InTable`: the records passed are the table's first ones, without a fault.
-- Assumes nothing.
use Prim.Native.Nat.{◌-◌}
use Rattle.sheet_records.proofs.Tables.{InTable}
use Rattle.sheet_records.proofs.check_table.Given as goal

abbrev pub invariant-loop-records : goal.invariant-loop-records
invariant-loop-records l = InTable l.width l.most l.text l.next l.records

abbrev pub decreases-loop-records : goal.decreases-loop-records
decreases-loop-records l = l.most - l.records
