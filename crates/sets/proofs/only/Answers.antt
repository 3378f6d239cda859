-- `sets::only` meets its contract: a strand below 64 is a power of two, which fits, and the others are in no set.
-- Assumes nothing.
use mathlib.Core.Path.{sym, ap, ◌∙◌}
use Prim.Native.Nat.{ℕ, ◌%◌, ◌^◌}
use native.Mathlib.Nat.{one-mul, mod-eq_of_lt}
use lib.Pow.{pow-lt}
use Rattle.sets.proofs.Operations.{word_only, word_only_beyond}
use Rattle.sets.proofs.only.Goals as goal

pub returns-then-t-lt64 : goal.returns-then-t-lt64
returns-then-t-lt64 c = let t = c.args.t in
    ap (λ (n : ℕ). n % 2 ^ 64) (one-mul (2 ^ t)) ∙ mod-eq_of_lt (pow-lt c.if-t-lt64.true) ∙ sym (word_only 64 t c.if-t-lt64.true)

pub returns-else-t-lt64 : goal.returns-else-t-lt64
returns-else-t-lt64 c = sym (word_only_beyond 64 c.args.t c.if-t-lt64.false)
