-- What the machine's operations on words do to the strands of a set: or, and, a power of two, a shift up and down, and the count of zeros below the lowest one.
-- Each is said over any number n of bits. Assumes nothing.
use mathlib.Core.Path.{◌≡◌, refl, sym, ap, ap₂, ◌∙◌}
use mathlib.Core.Bool.{Bool, true, false, true≢false, ◌&&◌, ◌||◌}
use Prim.Native.Nat.{ℕ, zero, suc, ◌+◌, ◌-◌, ◌*◌, ◌/◌, ◌%◌, ◌^◌, ◌≤◌, ◌<◌, min, max, zero-le}
use native.Mathlib.Nat.{add-zero, zero-mul, mod-lt, zero-lt-suc, zero-max, zero-min}
use native.Mathlib.Decide.{dec_lt, ℕ_discrete}
use native.Mathlib.Omega.{arith}
use lib.Arith.{digits_mod}
use lib.Bits.{bit_and, bit_or, and_step, or_step, and_shr, or_shr, and_lt, or_lt}
use lib.Count.{under, count_trailing_zeros}
use lib.Dec.{eqb}
use lib.Pow.{pow_pos, pow-lt}
use borrow.Author.Tests.{eq-eqb, ne_eqb}
use Rattle.sets.specs.Set.{has, word, next_of}
use Rattle.sets.proofs.Bits.{has_zero, has_half, has_shr, has_high, has_low, has_beyond, same_bits}
use Rattle.sets.proofs.Words.{word_lt, has_word, word_same}
use Rattle.sets.proofs.NextMember.{Next, next_is}

-- ---- no strand, and one strand

-- the set of no strand is 0
pub word_none : (n : ℕ) → word (λ s. false) n ≡ 0
unfolding word
word_none zero = refl
word_none (suc n) = ap (λ (w : ℕ). 0 * 2 ^ n + w) (word_none n) ∙ add-zero (0 * 2 ^ n) ∙ zero-mul (2 ^ n)

-- a power of two has one strand
pub has_pow : (t s : ℕ) → has (2 ^ t) s ≡ eqb s t
has_pow t s = go (dec_lt s t) (ℕ_discrete s t)
  where
    one : 2 ^ t ≡ 1 * 2 ^ t + 0
    one = omega arith

    go : Dec (s < t) → Dec (s ≡ t) → has (2 ^ t) s ≡ eqb s t
    go (yes l) e = ap (λ (w : ℕ). has w s) one ∙ has_low 1 t 0 s l ∙ has_beyond 0 0 s (omega arith) zero-le ∙ sym (ne_eqb s t (omega arith))
    go (no g) (yes e) = ap₂ has one (e ∙ sym (add-zero t)) ∙ has_high 1 t 0 0 (pow_pos t) ∙ has_zero 1 ∙ sym (eq-eqb s t e)
    go (no g) (no d) = has_beyond (2 ^ t) (t + 1) s (pow-lt (omega arith)) (omega arith) ∙ sym (ne_eqb s t d)

-- so it is the set of that strand
pub word_only : (n t : ℕ) → t < n → word (λ s. eqb s t) n ≡ 2 ^ t
word_only n t h =
    same_bits n (word (λ s. eqb s t) n) (2 ^ t) (word_lt (λ s. eqb s t) n) (pow-lt h) (λ s l. has_word (λ s. eqb s t) n s l ∙ sym (has_pow t s))

-- a strand beyond the limit is in no set
pub word_only_beyond : (n t : ℕ) → n ≤ t → word (λ s. eqb s t) n ≡ 0
word_only_beyond n t h = word_same (λ s. eqb s t) (λ s. false) n (λ s l. ne_eqb s t (omega arith)) ∙ word_none n

-- ---- or, and

two_pos : 0 < 2
two_pos = zero-lt-suc 1

-- an operation that works digit by digit, as `digits` does, answers at each strand as `answer` does
module _ (op digits : ℕ → ℕ → ℕ) (answer : Bool → Bool → Bool) (shr : (a b k : ℕ) → op a b / 2 ^ k ≡ op (a / 2 ^ k) (b / 2 ^ k))
    (step : (a b : ℕ) → op a b ≡ op (a / 2) (b / 2) * 2 + digits (a % 2) (b % 2)) (small : (x y : ℕ) → x < 2 → y < 2 → digits x y < 2)
    (each : (x y : ℕ) → x < 2 → y < 2 → eqb (digits x y) 1 ≡ answer (eqb x 1) (eqb y 1)) where
  has_op : (a b s : ℕ) → has (op a b) s ≡ answer (has a s) (has b s)
  unfolding has
  has_op a b s =
      let x = a / 2 ^ s in
      let y = b / 2 ^ s in
      ap (λ (w : ℕ). eqb (w % 2) 1) (shr a b s ∙ step x y)
      ∙ ap (λ (w : ℕ). eqb w 1) (digits_mod (op (x / 2) (y / 2)) (small (x % 2) (y % 2) (mod-lt x two_pos) (mod-lt y two_pos)))
      ∙ each (x % 2) (y % 2) (mod-lt x two_pos) (mod-lt y two_pos)

max_digit : (x y : ℕ) → x < 2 → y < 2 → eqb (max x y) 1 ≡ (eqb x 1 || eqb y 1)
max_digit zero y hx hy = ap (λ (w : ℕ). eqb w 1) (zero-max y)
max_digit (suc zero) zero hx hy = refl
max_digit (suc zero) (suc zero) hx hy = refl
max_digit (suc zero) (suc (suc y)) hx hy = absurd (omega arith)
max_digit (suc (suc x)) y hx hy = absurd (omega arith)

min_digit : (x y : ℕ) → x < 2 → y < 2 → eqb (min x y) 1 ≡ (eqb x 1 && eqb y 1)
min_digit zero y hx hy = ap (λ (w : ℕ). eqb w 1) (zero-min y)
min_digit (suc zero) zero hx hy = refl
min_digit (suc zero) (suc zero) hx hy = refl
min_digit (suc zero) (suc (suc y)) hx hy = absurd (omega arith)
min_digit (suc (suc x)) y hx hy = absurd (omega arith)

-- a strand is in the or of two numbers where it is in one of them
pub has_or : (a b s : ℕ) → has (bit_or a b) s ≡ (has a s || has b s)
has_or = has_op bit_or max ◌||◌ or_shr or_step (λ x y hx hy. omega arith) max_digit

-- and in their and where it is in both
pub has_and : (a b s : ℕ) → has (bit_and a b) s ≡ (has a s && has b s)
has_and = has_op bit_and min ◌&&◌ and_shr and_step (λ x y hx hy. omega arith) min_digit

-- the strands of one set or the other
pub word_or : (n a b : ℕ) → a < 2 ^ n → b < 2 ^ n → bit_or a b ≡ word (λ s. has a s || has b s) n
word_or n a b ha hb =
    same_bits n (bit_or a b) (word (λ s. has a s || has b s) n) (or_lt n a b ha hb) (word_lt (λ s. has a s || has b s) n)
    (λ s l. has_or a b s ∙ sym (has_word (λ s. has a s || has b s) n s l))

-- the strands of both sets
pub word_and : (n a b : ℕ) → a < 2 ^ n → b < 2 ^ n → bit_and a b ≡ word (λ s. has a s && has b s) n
word_and n a b ha hb =
    same_bits n (bit_and a b) (word (λ s. has a s && has b s) n) (and_lt n a b ha hb) (word_lt (λ s. has a s && has b s) n)
    (λ s l. has_and a b s ∙ sym (has_word (λ s. has a s && has b s) n s l))

-- ---- the zeros below the lowest one

-- a number whose t lowest bits are cleared has no strand below t, and the others as before
has_cleared_below : (w t s : ℕ) → s < t → has (w / 2 ^ t * 2 ^ t) s ≡ false
has_cleared_below w t s h =
    ap (λ (x : ℕ). has x s) (sym (add-zero (w / 2 ^ t * 2 ^ t))) ∙ has_low (w / 2 ^ t) t 0 s h ∙ has_beyond 0 0 s (omega arith) zero-le

has_cleared_above : (w t s : ℕ) → t ≤ s → has (w / 2 ^ t * 2 ^ t) s ≡ has w s
has_cleared_above w t s h =
    let e : s ≡ t + (s - t) = omega arith in
    ap₂ has (sym (add-zero (w / 2 ^ t * 2 ^ t))) e ∙ has_high (w / 2 ^ t) t 0 (s - t) (pow_pos t) ∙ has_shr w t (s - t) ∙ ap (has w) (sym e)

-- the zeros below the lowest one of n bits lead to the first strand, or to n
trailing_first : (n w : ℕ) → Next (has w) 0 n (count_trailing_zeros n w)
unfolding count_trailing_zeros
trailing_first zero w = record { within = zero-le; skips = λ s a l. absurd (omega arith); lands = λ l. absurd (omega arith) }
trailing_first (suc n) w = go (w % 2) refl (trailing_first n (w / 2))
  where
    go : (d : ℕ) → w % 2 ≡ d → Next (has (w / 2)) 0 n (count_trailing_zeros n (w / 2)) → Next (has w) 0 (suc n) (under d (count_trailing_zeros n (w / 2)))
    go zero e rest =
        record {
          within = omega (arith, rest.within);
          skips = skips;
          lands = λ l. (zero-le, sym (has_half w (count_trailing_zeros n (w / 2))) ∙ (rest.lands (omega arith)).1);
        }
      where
        skips : (s : ℕ) → 0 ≤ s → s < suc (count_trailing_zeros n (w / 2)) → has w s ≡ false
        skips zero a l = has_zero w ∙ ap (λ (x : ℕ). eqb x 1) e
        skips (suc s) a l = sym (has_half w s) ∙ rest.skips s zero-le (omega arith)
    go (suc d) e rest =
        record {
          within = zero-le;
          skips = λ s a l. absurd (omega arith);
          lands = λ l. (zero-le, has_zero w ∙ eq-eqb (w % 2) 1 (omega (arith, mod-lt w two_pos)));
        }

pub trailing_all : (n w : ℕ) → count_trailing_zeros n w ≡ next_of (has w) 0 n
trailing_all n w = next_is (has w) 0 n (count_trailing_zeros n w) (trailing_first n w)

-- with the t lowest bits cleared they lead to the first strand at or after t
pub trailing_next : (n w t : ℕ) → count_trailing_zeros n (w / 2 ^ t * 2 ^ t) ≡ next_of (has w) t n
trailing_next n w t = next_is (has w) t n r (record { within = first.within; skips = skips; lands = lands })
  where
    r : ℕ
    r = count_trailing_zeros n (w / 2 ^ t * 2 ^ t)

    first : Next (has (w / 2 ^ t * 2 ^ t)) 0 n r
    first = trailing_first n (w / 2 ^ t * 2 ^ t)

    skips : (s : ℕ) → t ≤ s → s < r → has w s ≡ false
    skips s a l = sym (has_cleared_above w t s a) ∙ first.skips s zero-le l

    lands : r < n → (t ≤ r) × (has w r ≡ true)
    lands l = go (dec_lt r t)
      where
        go : Dec (r < t) → (t ≤ r) × (has w r ≡ true)
        go (yes b) = absurd (true≢false (sym (first.lands l).1 ∙ has_cleared_below w t r b))
        go (no g) = (omega arith, sym (has_cleared_above w t r (omega arith)) ∙ (first.lands l).1)
