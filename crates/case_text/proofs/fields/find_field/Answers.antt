-- `fields::find_field` meets its contract. The loop's invariant is what `Search` says of the place that it has come to. Assumes nothing.
use mathlib.Core.Path.{sym, ◌∙◌}
use native.Mathlib.Omega.{arith}
use Rattle.case_text.proofs.Words.{search_starts, search_found, search_next, search_ends}
use Rattle.case_text.proofs.fields.find_field.Goals as goal

pub loop-at-init : goal.loop-at-init
loop-at-init c = let a = c.args in search_starts a.key.now a.line.now c.place_of-at.result c.place_of-at.ensures.value

pub returns-then-has_key : goal.returns-then-has_key
returns-then-has_key c = let a = c.args in
    search_found a.key.now a.line.now c.loop-at.at c.loop-at.invariant c.place_of-end.result c.loop-at-test.true c.place_of-end.ensures.value
    (sym c.has_key.ensures ∙ c.if-has_key.true)

pub loop-at-smaller : goal.loop-at-smaller
loop-at-smaller c = omega (arith, c.place_of-end.ensures, c.loop-at-test.true)

pub loop-at-preserved : goal.loop-at-preserved
loop-at-preserved c = let a = c.args in
    search_next a.key.now a.line.now c.loop-at.at c.loop-at.invariant c.place_of-end.result c.loop-at-test.true c.place_of-end.ensures.value
    (sym c.has_key.ensures ∙ c.if-has_key.false)

pub returns : goal.returns
returns c = let a = c.args in search_ends a.key.now a.line.now c.loop-at.at c.loop-at.invariant c.loop-at-test.false
