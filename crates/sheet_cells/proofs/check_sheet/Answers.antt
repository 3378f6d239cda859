-- `sheet_cells::check_sheet` meets its contract. The loop's invariant is `InSheet`: the records passed are the sheet's first ones, without a fault.
-- Assumes nothing.
use mathlib.Core.Path.{sym, ◌∙◌}
use Rattle.std.proofs.Common.{rules}
use native.Mathlib.Omega.{arith}
use Rattle.sheet_cells.proofs.Sheets.{sheet_starts, sheet_stops, few_more, inside_more, sheet_goes_on, sheet_surplus, sheet_ends}
use Rattle.sheet_cells.proofs.check_sheet.Goals as goal

pub loop-row-init : goal.loop-row-init
loop-row-init c = let a = c.args in sheet_starts a.rows a.columns a.text.now

pub check_record-requires : goal.check_record-requires
check_record-requires c = (c.loop-row.invariant.inside, c.requires.1)

pub returns-in_err-record : goal.returns-in_err-record
returns-in_err-record c = let a = c.args in
    let s = c.loop-row in
    let e = c.in_err-record in
    let stops = sheet_stops a.rows a.columns a.text.now s.row s.next s.count s.invariant c.loop-row-test.true e.field-0.0 (sym e.was ∙ c.check_record.ensures) in
    search (rules, stops)

pub overflow_add-count : goal.overflow_add-count
overflow_add-count c = let a = c.args in
    let s = c.loop-row in
    let r = c.in_ok-record in
    let few = few_more a.rows a.columns a.text.now s.row s.next s.count s.invariant c.loop-row-test.true r.record (sym r.was ∙ c.check_record.ensures) in
    let end = inside_more a.rows a.columns a.text.now s.row s.next s.count s.invariant c.loop-row-test.true r.record (sym r.was ∙ c.check_record.ensures) in
    omega arith

pub loop-row-preserved : goal.loop-row-preserved
loop-row-preserved c = let a = c.args in
    let s = c.loop-row in
    let r = c.in_ok-record in
    sheet_goes_on a.rows a.columns a.text.now s.row s.next s.count s.invariant c.loop-row-test.true r.record (sym r.was ∙ c.check_record.ensures)

pub returns-then-next-text : goal.returns-then-next-text
returns-then-next-text c = let a = c.args in
    let s = c.loop-row in
    sheet_surplus a.rows a.columns a.text.now s.row s.next s.count s.invariant c.loop-row-test.false c.if-next-text.true

pub returns : goal.returns
returns c = let a = c.args in
    let s = c.loop-row in
    sheet_ends a.rows a.columns a.text.now s.row s.next s.count s.invariant c.loop-row-test.false c.if-next-text.false
