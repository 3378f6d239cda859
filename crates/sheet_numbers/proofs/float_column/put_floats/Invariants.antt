-- `float_column::put_floats` meets its contract. The loop's invariant is `InColumn`: what is left of the column ends the table and tells the fault.
-- Assumes nothing.
use Rattle.sheet_numbers.specs.Floats.{is_read, value_as}
use Rattle.sheet_numbers.proofs.Walk.{InColumn}
use Rattle.sheet_numbers.proofs.float_column.put_floats.Given as goal

abbrev pub invariant-loop-i : goal.invariant-loop-i
invariant-loop-i l = InColumn (is_read l.kind) (value_as l.kind) l.records l.width l.column l.text l.initial.out l.out l.fault l.next l.i
