-- `sheet_records::first_width` meets its contract. The loop's invariant is `Counting`. Assumes nothing.
use borrow.Author.Tests.{not-true, not-false}
use Rattle.std.proofs.Common.{arith, rules}
use Rattle.sheet_records.proofs.Widths.{no_record, counting_starts, counting_stops, counting_goes_on, counting_ends}
use Rattle.sheet_records.proofs.first_width.Goals as goal

pub returns-then-is_empty : goal.returns-then-is_empty
returns-then-is_empty c = no_record c.args.text.now (search rules)

pub loop-width-init : goal.loop-width-init
loop-width-init c = counting_starts c.args.text.now (search rules)

pub returns-then-not-field : goal.returns-then-not-field
returns-then-not-field c = let s = c.loop-width in
    counting_stops c.args.text.now s.next s.width s.invariant (omega arith) c.field_or_empty-field.result c.field_or_empty-field.ensures (not-true _ c.if-not-field.true)

pub loop-width-preserved : goal.loop-width-preserved
loop-width-preserved c = let s = c.loop-width in
    counting_goes_on c.args.text.now s.next s.width s.invariant (omega arith) c.field_or_empty-field.result c.field_or_empty-field.ensures (not-false _ c.if-not-field.false)

pub returns : goal.returns
returns c = let s = c.loop-width in
    counting_ends c.args.text.now s.next s.width s.invariant (omega arith)
