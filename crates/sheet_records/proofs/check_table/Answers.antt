-- `sheet_records::check_table` meets its contract. The loop's invariant is `InTable`: the records passed are the table's first ones, without a fault.
-- Assumes nothing.
use mathlib.Core.Path.{sym, ap, ◌∙◌}
use Rattle.std.proofs.Common.{rules}
use Rattle.sheet_records.specs.Tables.{table_answer}
use Rattle.sheet_records.proofs.Tables.{table_starts, table_too_long, table_stops, table_goes_on, table_ends, table_full}
use Rattle.sheet_records.proofs.check_table.Goals as goal

pub loop-records-init : goal.loop-records-init
loop-records-init c = let a = c.args in table_starts a.width a.most a.text.now

pub returns-then-text-next : goal.returns-then-text-next
returns-then-text-next c = let a = c.args in
    let s = c.loop-records in
    ap table_answer (table_ends a.width a.most a.text.now s.next s.records s.invariant c.if-text-next.true)

pub returns-in_err-next : goal.returns-in_err-next
returns-in_err-next c = let a = c.args in
    let s = c.loop-records in
    let e = c.in_err-next in
    let stops = table_stops a.width a.most a.text.now s.next s.records s.invariant c.if-text-next.false c.loop-records-test.true e.field-0.0 (sym e.was ∙ c.check_record.ensures) in
    search (rules, stops)

pub loop-records-preserved : goal.loop-records-preserved
loop-records-preserved c = let a = c.args in
    let s = c.loop-records in
    table_goes_on a.width a.most a.text.now s.next s.records s.invariant c.if-text-next.false c.loop-records-test.true c.in_ok-next.next (sym c.in_ok-next.was ∙ c.check_record.ensures)

pub returns-then-next-text : goal.returns-then-next-text
returns-then-next-text c = let a = c.args in
    let s = c.loop-records in
    table_too_long a.width a.most a.text.now s.next s.records s.invariant c.if-next-text.true c.loop-records-test.false

pub returns : goal.returns
returns c = let a = c.args in
    let s = c.loop-records in
    ap table_answer (table_full a.width a.most a.text.now s.next s.records s.invariant c.loop-records-test.false c.if-next-text.false)
