-- `float_column::put_floats` meets its contract. The loop's invariant is `InColumn`: what is left of the column ends the table and tells the fault.
-- Assumes nothing.
use mathlib.Core.Path.{refl, ◌∙◌}
use lib.Ieee.{of_bits, round}
use Rattle.units.specs.Decimals.{decimal}
use Rattle.sheet_numbers.specs.Floats.{is_read, value_as}
use Rattle.sheet_numbers.proofs.Walk.{column_starts, column_goes_on, column_fault, column_put}
use Rattle.sheet_numbers.proofs.float_column.put_floats.Goals as goal

pub loop-i-init : goal.loop-i-init
loop-i-init c = let a = c.args in
    column_starts (is_read a.kind) (value_as a.kind) a.records a.width a.column a.text.now a.out.now

pub loop-i-preserved : goal.loop-i-preserved
unfolding of_bits decimal round
loop-i-preserved c = let a = c.args in
    let s = c.loop-i in
    column_goes_on (is_read a.kind) (value_as a.kind) a.records a.width a.column a.text.now a.out.now s.out s.fault s.next s.i s.invariant c.loop-i-test.true c.place_after-first.result c.place_after-next.result c.place_after-first.ensures c.place_after-next.ensures
    _ (c.unwrap_or.ensures ∙ rw c.float_at-read.ensures refl) _ (c.is_some.ensures ∙ rw c.float_at-read.ensures refl) c.fault_or-fault.result c.fault_or-fault.ensures

pub shape_of-out : goal.shape_of-out
shape_of-out c = c.loop-i.invariant.long

pub returns : goal.returns
returns c = let a = c.args in
    let s = c.loop-i in
    record {
      value = column_fault (is_read a.kind) (value_as a.kind) a.records a.width a.column a.text.now a.out.now s.out s.fault s.next s.i s.invariant c.loop-i-test.false;
      out_after = column_put (is_read a.kind) (value_as a.kind) a.records a.width a.column a.text.now a.out.now s.out s.fault s.next s.i s.invariant c.loop-i-test.false;
    }
