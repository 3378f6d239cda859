-- `text_decimals::all_digits` meets its contract: the digits before the point, then those after it. Assumes nothing.
use Rattle.std.proofs.Common.{ℕ, suc, ◌+◌, ◌≤◌, List, length, take, drop, sym, ap, ◌∙◌, add-one, arith}
use Rattle.text_decimals.specs.Decimals.{digits_after}
use Rattle.text_decimals.proofs.Parts.{few_of, digits_join, digits_none, no_places, to_the_end}
use Rattle.text_decimals.proofs.all_digits.Goals as goal

pub returns-then-point-text : goal.returns-then-point-text
returns-then-point-text c = let a = c.args in
    c.digits_after.ensures ∙ sym (ap (λ (l : List ℕ). digits_after 0 l) (no_places a.text.now a.point c.if-point-text.true))

pub digits_after-requires-3 : goal.digits_after-requires-3
digits_after-requires-3 c = few_of 0 (take c.args.point c.args.text.now) c.in_ok-n.n (sym c.digits_after-2.ensures ∙ c.in_ok-n.was)

pub returns-in_err-n : goal.returns-in_err-n
returns-in_err-n c = let a = c.args in
    c.from_residual.ensures ∙ digits_none 0 (take a.point a.text.now) (drop (suc a.point) a.text.now) (sym c.digits_after-2.ensures ∙ c.in_err-n.was)

pub returns : goal.returns
returns c = let a = c.args in
    let short : a.point + 1 ≤ length a.text.now = omega arith in
    let join = digits_join 0 (take a.point a.text.now) (drop (suc a.point) a.text.now) c.in_ok-n.n (sym c.digits_after-2.ensures ∙ c.in_ok-n.was) in
    c.digits_after-3.ensures ∙ ap (λ (l : List ℕ). digits_after c.in_ok-n.n l) (to_the_end a.text.now (a.point + 1) short) ∙ rw add-one (sym join)
