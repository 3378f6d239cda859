-- `sets::position` meets its contract: the mask keeps the ones below t, which are as many as the strands below t. From 64 on these are all.
-- Assumes nothing.
use mathlib.Core.Path.{◌≡◌, ap, ◌∙◌}
use Prim.Native.Nat.{ℕ, ◌-◌, ◌^◌}
use native.Mathlib.Nat.{lt_of_lt_of_le}
use native.Mathlib.Omega.{arith}
use lib.Bits.{bit_and, and_mask}
use lib.Count.{ones}
use lib.Pow.{pow_pos, pow_mono}
use Rattle.sets.proofs.Operations.{word_only}
use Rattle.sets.proofs.Words.{ones_all, ones_below}
use Rattle.sets.proofs.position.Goals as goal

pub overflow_sub-result : goal.overflow_sub-result
overflow_sub-result c = let t = c.args.t in
    omega (arith, c.only.ensures ∙ word_only 64 t c.if-t-lt64.true, pow_pos t)

pub returns-then-t-lt64 : goal.returns-then-t-lt64
returns-then-t-lt64 c = let w = c.args.set in
    let t = c.args.t in
    let power : c.only.result ≡ 2 ^ t = c.only.ensures ∙ word_only 64 t c.if-t-lt64.true in
    ap (λ (n : ℕ). ones (bit_and w (n - 1))) power ∙ ap ones (and_mask w t) ∙ ones_below w t

pub returns-else-t-lt64 : goal.returns-else-t-lt64
returns-else-t-lt64 c = ones_all c.args.set c.args.t (lt_of_lt_of_le c.ranges.set.fits (pow_mono c.if-t-lt64.false))
