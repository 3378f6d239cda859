-- How code builds a set: from a test of each strand (`build_none`, `build_more`), from strands that are named (`name_more`), and from two sets (`both_of`). Each law is one step of
-- a loop, over plain variables.
-- Assumes nothing.
use mathlib.Core.Path.{◌≡◌, sym, ap, ap₂, ◌∙◌}
use mathlib.Core.Bool.{Bool, true, false, ◌&&◌, ◌||◌, or-false, and-false, and-true}
use Prim.Native.Nat.{ℕ, ◌+◌, ◌^◌, ◌<◌}
use native.Mathlib.Nat.{lt_of_lt_of_le}
use native.Mathlib.Decide.{dec_lt, ℕ_discrete}
use native.Mathlib.Omega.{arith}
use lib.Bits.{bit_or}
use lib.Dec.{eqb}
use lib.Pow.{pow_mono}
use borrow.Author.Tests.{eq-eqb, ne_eqb}
use Rattle.sets.specs.Set.{has, word}
use Rattle.sets.proofs.Bits.{same_bits}
use Rattle.sets.proofs.Operations.{word_none, word_or}
use Rattle.sets.proofs.Words.{word_lt, word_same, word_has, has_word, has_word_beyond}

-- the set with one strand more, as an or
pub or_only : (n w t : ℕ) → w < 2 ^ n → bit_or w (word (λ s. eqb s t) n) ≡ word (λ s. has w s || eqb s t) n
or_only n w t h =
    word_or n w (word (λ s. eqb s t) n) h (word_lt (λ s. eqb s t) n)
    ∙ word_same (λ s. has w s || has (word (λ s. eqb s t) n) s) (λ s. has w s || eqb s t) n (λ s l. ap (λ (b : Bool). has w s || b) (has_word (λ s. eqb s t) n s l))

-- the set with the strand t where the answer b is yes
pub joined : (n w t r : ℕ) (b : Bool) → b ≡ true → r ≡ word (λ s. has w s || eqb s t) n → r ≡ word (λ s. has w s || (b && eqb s t)) n
joined n w t r b e h = h ∙ word_same (λ s. has w s || eqb s t) (λ s. has w s || (b && eqb s t)) n (λ s l. ap (λ (a : Bool). has w s || (a && eqb s t)) (sym e))

-- and as it was where the answer is no
pub kept : (n w t : ℕ) (b : Bool) → b ≡ false → w < 2 ^ n → w ≡ word (λ s. has w s || (b && eqb s t)) n
kept n w t b e h =
    sym (word_has w n h)
    ∙ word_same (has w) (λ s. has w s || (b && eqb s t)) n (λ s l. sym (ap (λ (a : Bool). has w s || (a && eqb s t)) e ∙ or-false (has w s)))

-- the set before the first strand is tested
pub build_none : (legal : ℕ → Bool) (n : ℕ) → word (λ s. false) n ≡ word legal 0
unfolding word
build_none legal n = word_none n

tested : (legal : ℕ → Bool) (n t : ℕ) → t < n → word (λ s. has (word legal t) s || (legal t && eqb s t)) n ≡ word legal (t + 1)
tested legal n t h =
    same_bits n (word test n) (word legal (t + 1)) (word_lt test n) (lt_of_lt_of_le (word_lt legal (t + 1)) (pow_mono (omega arith)))
    (λ s l. has_word test n s l ∙ go s (dec_lt s t) (ℕ_discrete s t))
  where
    test : ℕ → Bool
    test s = has (word legal t) s || (legal t && eqb s t)

    go : (s : ℕ) → Dec (s < t) → Dec (s ≡ t) → (has (word legal t) s || (legal t && eqb s t)) ≡ has (word legal (t + 1)) s
    go s (yes l) d =
        ap₂ (λ (a b : Bool). a || (legal t && b)) (has_word legal t s l) (ne_eqb s t (omega arith))
        ∙ ap (λ (b : Bool). legal s || b) (and-false (legal t))
        ∙ or-false (legal s)
        ∙ sym (has_word legal (t + 1) s (omega arith))
    go s (no g) (yes e) =
        ap₂ (λ (a b : Bool). a || (legal t && b)) (has_word_beyond legal t s (omega arith)) (eq-eqb s t e)
        ∙ and-true (legal t)
        ∙ ap legal (sym e)
        ∙ sym (has_word legal (t + 1) s (omega arith))
    go s (no g) (no d) =
        ap₂ (λ (a b : Bool). a || (legal t && b)) (has_word_beyond legal t s (omega arith)) (ne_eqb s t d)
        ∙ and-false (legal t)
        ∙ sym (has_word_beyond legal (t + 1) s (omega arith))

-- One strand tested: w is the set of the legal strands below t, b the answer for t, and r what `with_if` makes of them.
pub build_more : (legal : ℕ → Bool) (n t w r : ℕ) (b : Bool) → t < n → w ≡ word legal t → b ≡ legal t
    → r ≡ word (λ s. has w s || (b && eqb s t)) n → r ≡ word legal (t + 1)
build_more legal n t w r b h e a made =
    made ∙ ap₂ (λ (x : ℕ) (y : Bool). word (λ s. has x s || (y && eqb s t)) n) e a ∙ tested legal n t h

-- One strand named: w is the set of the strands of p, and r what `with` makes of it and t.
pub name_more : (p : ℕ → Bool) (n t w r : ℕ) → w ≡ word p n → r ≡ word (λ s. has w s || eqb s t) n → r ≡ word (λ s. p s || eqb s t) n
name_more p n t w r e made =
    made ∙ word_same (λ s. has w s || eqb s t) (λ s. p s || eqb s t) n (λ s l. ap (λ (x : ℕ). has x s || eqb s t) e ∙ ap (λ (b : Bool). b || eqb s t) (has_word p n s l))

-- Two sets, v of p and w of q, and r what `both` makes of them.
pub both_of : (p q : ℕ → Bool) (n v w r : ℕ) → v ≡ word p n → w ≡ word q n → r ≡ word (λ s. has v s && has w s) n → r ≡ word (λ s. p s && q s) n
both_of p q n v w r e f made =
    made
    ∙ word_same (λ s. has v s && has w s) (λ s. p s && q s) n
    (λ s l. ap₂ (λ (x y : ℕ). has x s && has y s) e f ∙ ap₂ ◌&&◌ (has_word p n s l) (has_word q n s l))
