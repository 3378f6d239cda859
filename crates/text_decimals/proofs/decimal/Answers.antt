-- `text_decimals::decimal` meets its contract: no bytes, a minus first, or none. Assumes nothing.
use Rattle.std.proofs.Common.{◌≡◌, get_or, eq-eqb, ne_eqb, ap, ◌∙◌, true, List, ℕ, arith}
use Rattle.text_decimals.specs.Decimals.{signed_of, decimal_of}
use Rattle.text_decimals.proofs.Parts.{no_bytes, to_the_end}
use Rattle.text_decimals.proofs.decimal.Goals as goal

pub returns-in-empty : goal.returns-in-empty
returns-in-empty c = no_bytes c.args.text.now (omega arith)

pub returns-in-45 : goal.returns-in-45
unfolding decimal_of
returns-in-45 c =
    let e : get_or c.args.text.now 0 0 ≡ 45 = omega arith in
    rw (eq-eqb _ 45 e) (c.signed.ensures ∙ ap (λ (l : List ℕ). signed_of true l) (to_the_end c.args.text.now 1 c.in-45.len_at_least))

pub returns-in_default : goal.returns-in_default
unfolding decimal_of
returns-in_default c =
    let e : get_or c.args.text.now 0 0 ≡ 45 → ⊥ = λ e. omega arith in
    rw (ne_eqb _ 45 e) c.signed-in_default.ensures
