-- `ledger_row_choice::row` meets its contract. The invariant: the choice among the strands that have left, those still to come, and the row that the next one leaves. Assumes nothing.
use mathlib.Core.Path.{sym, ◌∙◌}
use native.Mathlib.Omega.{arith}
use Rattle.ledger_row_choice.proofs.Leaving.{first, starts, strand_small, turns, fewer, place_small, ends}
use Rattle.ledger_row_choice.proofs.row.Goals as goal

pub overflow_cast-first : goal.overflow_cast-first
overflow_cast-first c = let a = c.args in
    omega (arith, c.first.ensures, (first a.own a.major.now a.before.now a.leaving a.width a.q c.requires.3).below)

pub candidate-choice-requires : goal.candidate-choice-requires
candidate-choice-requires c = let a = c.args in
    (c.requires.0, omega (arith, c.first.ensures, (first a.own a.major.now a.before.now a.leaving a.width a.q c.requires.3).below))

pub overflow_add-i : goal.overflow_add-i
overflow_add-i c = omega (arith, c.requires)

pub loop-own-init : goal.loop-own-init
loop-own-init c = let a = c.args in
    starts a.own a.major.now a.before.now a.leaving a.width a.q c.requires.3
    c.first.ensures c.rest-left.ensures c.candidate-choice.ensures

pub overflow_cast-s : goal.overflow_cast-s
overflow_cast-s c = omega (arith, strand_small c.loop-own.invariant (sym c.is_empty.ensures ∙ c.loop-own-test.true) c.first-s.ensures)

pub candidate-requires : goal.candidate-requires
candidate-requires c = (c.requires.0, strand_small c.loop-own.invariant (sym c.is_empty.ensures ∙ c.loop-own-test.true) c.first-s.ensures)

pub overflow_add-i-in-loop-own : goal.overflow_add-i-in-loop-own
overflow_add-i-in-loop-own c = omega (arith, c.requires, place_small c.loop-own.invariant (sym c.is_empty.ensures ∙ c.loop-own-test.true) c.requires.1 c.requires.2)

pub loop-own-smaller : goal.loop-own-smaller
loop-own-smaller c = fewer c.loop-own.invariant (sym c.is_empty.ensures ∙ c.loop-own-test.true) c.rest-left-in-loop-own.ensures

pub loop-own-preserved : goal.loop-own-preserved
loop-own-preserved c = turns c.loop-own.invariant (sym c.is_empty.ensures ∙ c.loop-own-test.true) c.first-s.ensures c.rest-left-in-loop-own.ensures
    c.candidate.ensures c.lower-choice.ensures

pub returns : goal.returns
returns c = ends c.loop-own.invariant (sym c.is_empty.ensures ∙ c.loop-own-test.false)
