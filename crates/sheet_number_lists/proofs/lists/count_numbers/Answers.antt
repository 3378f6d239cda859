-- `lists::count_numbers` meets its contract. Assumes nothing.
use Prim.Native.Nat.{ℕ}
use mathlib.Core.Path.{refl, sym, ◌∙◌}
use lib.Dec.{eqb}
use Rattle.std.proofs.Common.{arith, rules, tests, length}
use Rattle.std.proofs.lemmas.List.{length_push}
use Rattle.std.proofs.lemmas.Iterator.Consumers.{YieldsList-turn, YieldsList-end}
use Rattle.std.proofs.lemmas.Iterator.Splits.{YieldsList-from_slice_split}
use Rattle.sheet_number_lists.proofs.Turns.{no_count, counting_starts, counting_stops, counting_goes_on, counting_ends}
use Rattle.sheet_number_lists.proofs.lists.count_numbers.Goals as goal

pub returns-then-is_empty : goal.returns-then-is_empty
returns-then-is_empty c = no_count c.args.content.now (search rules)

pub loop-word-init : goal.loop-word-init
loop-word-init c = record { counted = refl; words = counting_starts c.args.content.now (search rules) }

pub returns-in_err-plain_number : goal.returns-in_err-plain_number
returns-in_err-plain_number c =
    let t = c.args.content.now in
    let s = c.loop-word in
    let w = c.in-Some.word in
    let turn = YieldsList-turn (YieldsList-from_slice_split _ (λ (b : ℕ). eqb b 32) t (cc) (cc) (cc) (λ x b q k. search (rules, tests))) s.yielded _ s.yielded_by _ _ w c.in-Some.is c.next.ensures.steps in
    c.from_residual.ensures ∙ counting_stops t (length s.yielded) s.invariant.words w.now turn.0 turn.1 (sym c.plain_number.ensures ∙ c.in_err-plain_number.was)

pub loop-word-preserved : goal.loop-word-preserved
loop-word-preserved c =
    let t = c.args.content.now in
    let s = c.loop-word in
    let w = c.in-Some.word in
    let turn = YieldsList-turn (YieldsList-from_slice_split _ (λ (b : ℕ). eqb b 32) t (cc) (cc) (cc) (λ x b q k. search (rules, tests))) s.yielded _ s.yielded_by _ _ w c.in-Some.is c.next.ensures.steps in
    let more = length_push s.yielded w in
    record {
      counted = omega (arith, s.invariant.counted);
      words = rw more (counting_goes_on t (length s.yielded) s.invariant.words w.now turn.0 turn.1 c.in_ok-plain_number.field-0 (sym c.plain_number.ensures ∙ c.in_ok-plain_number.was));
    }

pub returns : goal.returns
returns c =
    let t = c.args.content.now in
    let s = c.loop-word in
    let end = YieldsList-end (YieldsList-from_slice_split _ (λ (b : ℕ). eqb b 32) t (cc) (cc) (cc) (λ x b q k. search (rules, tests))) s.yielded _ s.yielded_by _ _ c.in-None.is c.next.ensures.steps in
    rw s.invariant.counted (counting_ends t (length s.yielded) s.invariant.words (search rules) end.1)
