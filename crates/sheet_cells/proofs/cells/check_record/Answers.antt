-- `cells::check_record` meets its contract. The loop's invariant is `Counting`: the fields passed are the record's first ones, without a fault.
-- Assumes nothing.
use mathlib.Core.Path.{sym, ◌∙◌}
use native.Mathlib.Omega.{arith}
use Rattle.sheet_cells.proofs.Records.{missing_record, counting_starts, counting_breaks, counting_stops, few_more, inside_more, counting_goes_on, counting_ends}
use Rattle.sheet_cells.proofs.cells.check_record.Goals as goal

pub returns-then-text-at : goal.returns-then-text-at
returns-then-text-at c = let a = c.args in missing_record a.line a.columns a.text.now a.at c.if-text-at.true

pub loop-i-init : goal.loop-i-init
loop-i-init c = let a = c.args in counting_starts a.line a.columns a.text.now a.at c.if-text-at.false

pub returns-in_default : goal.returns-in_default
returns-in_default c = let a = c.args in
    let s = c.loop-i in
    counting_breaks a.line a.columns a.text.now a.at c.if-text-at.false s.next s.count s.i s.invariant c.loop-i-test.true (sym c.in_default.is ∙ c.cell_at.ensures)

pub returns-then-not-goes_on : goal.returns-then-not-goes_on
returns-then-not-goes_on c = let a = c.args in
    let s = c.loop-i in
    counting_stops a.line a.columns a.text.now a.at c.if-text-at.false s.next s.count s.i s.invariant c.loop-i-test.true c.in-Some.cell (sym c.in-Some.is ∙ c.cell_at.ensures)
    (sym c.if-not-goes_on.true ∙ c.goes_on.ensures)

pub overflow_add-count : goal.overflow_add-count
overflow_add-count c = let a = c.args in
    let s = c.loop-i in
    let few = few_more a.line a.columns a.text.now a.at c.if-text-at.false s.next s.count s.i s.invariant c.loop-i-test.true c.in-Some.cell (sym c.in-Some.is ∙ c.cell_at.ensures) in
    let end = inside_more a.line a.columns a.text.now a.at c.if-text-at.false s.next s.count s.i s.invariant c.loop-i-test.true c.in-Some.cell (sym c.in-Some.is ∙ c.cell_at.ensures) in
    omega arith

pub loop-i-preserved : goal.loop-i-preserved
loop-i-preserved c = let a = c.args in
    let s = c.loop-i in
    counting_goes_on a.line a.columns a.text.now a.at c.if-text-at.false s.next s.count s.i s.invariant c.loop-i-test.true c.in-Some.cell (sym c.in-Some.is ∙ c.cell_at.ensures)
    (sym c.if-not-goes_on.false ∙ c.goes_on.ensures)

pub returns : goal.returns
returns c = let a = c.args in
    let s = c.loop-i in
    counting_ends a.line a.columns a.text.now a.at c.if-text-at.false s.next s.count s.i s.invariant c.loop-i-test.false
