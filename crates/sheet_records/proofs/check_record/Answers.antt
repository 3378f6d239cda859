-- `sheet_records::check_record` meets its contract. The loop's invariant is `InRecord`: the fields passed are the record's first ones, without a
-- fault. Assumes nothing.
use mathlib.Core.Path.{sym, ◌∙◌}
use Rattle.sheet_fields.specs.Runs.{is_sound}
use Rattle.sheet_fields.proofs.Faults.{record-starts}
use Rattle.sheet_records.proofs.Records.{record-breaks, record-stops, record-goes-on, record-ends}
use Rattle.sheet_records.proofs.check_record.Goals as goal

pub loop-i-init : goal.loop-i-init
loop-i-init c = let a = c.args in record-starts is_sound a.width a.text.now a.at

pub returns-in_default : goal.returns-in_default
returns-in_default c = let a = c.args in
    let s = c.loop-i in
    record-breaks a.line a.width a.text.now a.at s.next s.i s.invariant c.loop-i-test.true (sym c.in_default.is ∙ c.field_at.ensures)

pub returns-then-not-goes_on : goal.returns-then-not-goes_on
returns-then-not-goes_on c = let a = c.args in
    let s = c.loop-i in
    record-stops a.line a.width a.text.now a.at s.next s.i s.invariant c.loop-i-test.true c.in-Some.found (sym c.in-Some.is ∙ c.field_at.ensures) (sym c.if-not-goes_on.true ∙ c.goes_on.ensures)

pub loop-i-preserved : goal.loop-i-preserved
loop-i-preserved c = let a = c.args in
    let s = c.loop-i in
    record-goes-on a.line a.width a.text.now a.at s.next s.i s.invariant c.loop-i-test.true c.in-Some.found (sym c.in-Some.is ∙ c.field_at.ensures) (sym c.if-not-goes_on.false ∙ c.goes_on.ensures)

pub returns : goal.returns
returns c = let a = c.args in
    let s = c.loop-i in
    record-ends a.line a.width a.text.now a.at s.next s.i s.invariant c.loop-i-test.false
