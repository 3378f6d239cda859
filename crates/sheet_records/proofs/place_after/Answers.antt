-- `sheet_records::place_after` meets its contract. The loop's invariant is `Passing`. Assumes nothing.
use mathlib.Core.Path.{ap}
use Rattle.sheet_fields.specs.declared.Field.{Field}
use Rattle.sheet_fields.proofs.Passing.{passing_starts, passing_goes_on, passing_ends}
use Rattle.sheet_records.proofs.place_after.Goals as goal

pub loop-init : goal.loop-init
loop-init c = let a = c.args in passing_starts a.count a.text.now a.at

pub loop-preserved : goal.loop-preserved
loop-preserved c = let a = c.args in
    let s = c.loop in
    passing_goes_on a.count a.text.now a.at s.next s.counter s.invariant c.loop-test.true c.field_or_empty-next.result.next (ap (λ (f : Field). f.next) c.field_or_empty-next.ensures)

pub returns : goal.returns
returns c = let a = c.args in
    let s = c.loop in
    passing_ends a.count a.text.now a.at s.next s.counter s.invariant c.loop-test.false
