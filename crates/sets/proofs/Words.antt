-- The number that stands for a set: it has the bits that it was made of, it is the only such number, and its ones are as many as the members.
-- Assumes nothing.
use mathlib.Core.Path.{◌≡◌, refl, sym, ap, ap₂, ◌∙◌}
use mathlib.Core.Bool.{Bool, true, false}
use mathlib.Core.Logic.{◌⊎◌, inl, inr}
use Prim.Native.Nat.{ℕ, zero, suc, ◌+◌, ◌*◌, ◌%◌, ◌^◌, ◌≤◌, ◌<◌}
use native.Mathlib.Nat.{add-zero, add_comm, le_refl, mod-eq_of_lt, mod-lt, two-pow-succ, eq-or-lt_of_le, le_of_suc-le-suc}
use native.Mathlib.Omega.{arith}
use lib.Count.{ones, ones_cat}
use lib.ListN.{length, length-append}
use lib.Pow.{pow_pos}
use Rattle.sets.specs.Set.{has, digit, word, alone, members}
use Rattle.sets.proofs.Members.{members_same, members_skip}
use Rattle.sets.proofs.Bits.{has_high, has_low, has_beyond, has_mod, same_bits}

-- a digit before n others is a number of n + 1 digits
digit_lt : (b : Bool) (n w : ℕ) → w < 2 ^ n → digit b * 2 ^ n + w < 2 ^ suc n
digit_lt true n w h = rw two-pow-succ (omega arith)
digit_lt false n w h = rw two-pow-succ (omega arith)

has_digit : (b : Bool) → has (digit b) 0 ≡ b
unfolding has
has_digit true = refl
has_digit false = refl

ones_digit : (b : Bool) (t : ℕ) → ones (digit b) ≡ length (alone b t)
unfolding ones
ones_digit true t = refl
ones_digit false t = refl

-- no ones in zero
pub ones_zero : ones 0 ≡ 0
unfolding ones
ones_zero = refl

-- sets of the same strands are the same number
pub word_same : (p q : ℕ → Bool) (n : ℕ) → ((t : ℕ) → t < n → p t ≡ q t) → word p n ≡ word q n
unfolding word
word_same p q zero e = refl
word_same p q (suc n) e = ap₂ (λ (b : Bool) (w : ℕ). digit b * 2 ^ n + w) (e n (omega arith)) (word_same p q n (λ t h. e t (omega arith)))

module _ (legal : ℕ → Bool) where
  -- the set of strands below n is a number of n bits
  pub word_lt : (n : ℕ) → word legal n < 2 ^ n
  unfolding word
  word_lt zero = omega arith
  word_lt (suc n) = digit_lt (legal n) n (word legal n) (word_lt n)

  -- it has the strand t below n exactly where t is legal ..
  pub has_word : (n t : ℕ) → t < n → has (word legal n) t ≡ legal t
  unfolding word
  has_word zero t h = absurd (omega arith)
  has_word (suc n) t h = go (has_word n t) (eq-or-lt_of_le (le_of_suc-le-suc h))
    where
      go : (t < n → has (word legal n) t ≡ legal t) → (t ≡ n) ⊎ (t < n) → has (digit (legal n) * 2 ^ n + word legal n) t ≡ legal t
      go below (inr l) = has_low (digit (legal n)) n (word legal n) t l ∙ below l
      go below (inl e) =
          ap (has (digit (legal n) * 2 ^ n + word legal n)) (e ∙ sym (add-zero n))
          ∙ has_high (digit (legal n)) n (word legal n) 0 (word_lt n)
          ∙ has_digit (legal n)
          ∙ ap legal (sym e)

  -- .. and none beyond
  pub has_word_beyond : (n t : ℕ) → n ≤ t → has (word legal n) t ≡ false
  has_word_beyond n t l = has_beyond (word legal n) n t (word_lt n) l

  -- the ones of a set are as many as its members
  pub ones_word : (n : ℕ) → ones (word legal n) ≡ length (members legal n)
  unfolding word members
  ones_word zero = ones_zero
  ones_word (suc n) =
      ones_cat n (digit (legal n)) (word legal n) (word_lt n)
      ∙ ap₂ ◌+◌ (ones_digit (legal n) n) (ones_word n)
      ∙ add_comm (length (alone (legal n) n)) (length (members legal n))
      ∙ sym (length-append (members legal n) (alone (legal n) n))

module _ (w : ℕ) where
  -- the strands below n of any number are its remainder by 2 ^ n ..
  pub word_mod : (n : ℕ) → word (has w) n ≡ w % 2 ^ n
  word_mod n =
      same_bits n (word (has w) n) (w % 2 ^ n) (word_lt (has w) n) (mod-lt w (pow_pos n))
      (λ t h. has_word (has w) n t h ∙ sym (has_mod w n t h))

  -- .. so that a number of n bits is the set of the strands that it has
  pub word_has : (n : ℕ) → w < 2 ^ n → word (has w) n ≡ w
  word_has n h = word_mod n ∙ mod-eq_of_lt h

  -- the ones below strand t are as many as the members below it
  pub ones_below : (t : ℕ) → ones (w % 2 ^ t) ≡ length (members (has w) t)
  ones_below t = ap ones (sym (word_mod t)) ∙ ones_word (has w) t

  -- the ones of a number of n bits are as many as its members
  pub ones_all : (n : ℕ) → w < 2 ^ n → ones w ≡ length (members (has w) n)
  ones_all n h = ap ones (sym (word_has n h)) ∙ ones_word (has w) n

  -- beyond n a number of n bits has no member
  pub members_beyond : (n m : ℕ) → w < 2 ^ n → n ≤ m → members (has w) m ≡ members (has w) n
  members_beyond n m h l = members_skip (has w) n m l (λ s a b. has_beyond w n s h a)

module _ (legal : ℕ → Bool) where
  -- a set has the members that it was made of, below any t ..
  pub members_word : (n t : ℕ) → t ≤ n → members (has (word legal n)) t ≡ members legal t
  members_word n t h = members_same (has (word legal n)) legal t (λ s l. has_word legal n s (omega arith))

  -- .. and up to any limit beyond n
  pub members_word_beyond : (n m : ℕ) → n ≤ m → members (has (word legal n)) m ≡ members legal n
  members_word_beyond n m h = members_beyond (word legal n) n m (word_lt legal n) h ∙ members_word n n (le_refl n)
