-- The bits of a number, as `has` reads them: of a number's upper and lower part, of a shifted number, and that the bits are the number.
-- Assumes nothing.
use mathlib.Core.Path.{◌≡◌, refl, sym, ap, ◌∙◌}
use mathlib.Core.Bool.{false}
use Prim.Native.Nat.{ℕ, zero, suc, ◌+◌, ◌*◌, ◌/◌, ◌%◌, ◌^◌, ◌≤◌, ◌<◌}
use native.Mathlib.Nat.{div-one, div-eq_of_lt, mod-lt, div-add-mod', lt_of_lt_of_le, le_of_suc-le-suc, zero-lt-suc}
use native.Mathlib.Numerals.{add-one, one-add}
use native.Mathlib.Omega.{arith}
use lib.Arith.{lt-one}
use lib.Bits.{block_half, block_odd}
use lib.Dec.{eqb}
use lib.Pow.{pow_mono, shr-shr, shr_lt, high, split}
use borrow.Author.Tests.{eqb-false}
use Rattle.sets.specs.Set.{has}

-- the lowest bit
pub has_zero : (w : ℕ) → has w 0 ≡ eqb (w % 2) 1
unfolding has
has_zero w = ap (λ (x : ℕ). eqb (x % 2) 1) (div-one w)

-- the bits of a number without its k lowest
pub has_shr : (w k t : ℕ) → has (w / 2 ^ k) t ≡ has w (k + t)
unfolding has
has_shr w k t = ap (λ (x : ℕ). eqb (x % 2) 1) (shr-shr w k t)

-- the bits of a number without its lowest
pub has_half : (w t : ℕ) → has (w / 2) t ≡ has w (suc t)
has_half w t = has_shr w 1 t ∙ ap (has w) (one-add t)

-- the bits at and above k are those of the upper part
pub has_high : (hi k lo t : ℕ) → lo < 2 ^ k → has (hi * 2 ^ k + lo) (k + t) ≡ has hi t
has_high hi k lo t h = sym (has_shr (hi * 2 ^ k + lo) k t) ∙ ap (λ (x : ℕ). has x t) (high hi k h)

-- the bits below k are those of the lower part, whatever its size
pub has_low : (hi k lo t : ℕ) → t < k → has (hi * 2 ^ k + lo) t ≡ has lo t
has_low hi zero lo t h = absurd (omega arith)
has_low hi (suc k) lo zero h = has_zero (hi * 2 ^ suc k + lo) ∙ ap (λ (x : ℕ). eqb x 1) (block_odd hi k lo) ∙ sym (has_zero lo)
has_low hi (suc k) lo (suc t) h =
    sym (has_half (hi * 2 ^ suc k + lo) t)
    ∙ ap (λ (x : ℕ). has x t) (block_half hi k lo)
    ∙ has_low hi k (lo / 2) t (le_of_suc-le-suc h)
    ∙ has_half lo t

-- a number of n bits has none at or beyond n
pub has_beyond : (w n t : ℕ) → w < 2 ^ n → n ≤ t → has w t ≡ false
unfolding has
has_beyond w n t h l = ap (λ (x : ℕ). eqb (x % 2) 1) (div-eq_of_lt (lt_of_lt_of_le h (pow_mono l)))

-- the remainder by 2 ^ n keeps the bits below n
pub has_mod : (w n t : ℕ) → t < n → has (w % 2 ^ n) t ≡ has w t
has_mod w n t h = sym (has_low (w / 2 ^ n) n (w % 2 ^ n) t h) ∙ ap (λ (x : ℕ). has x t) (split w n)

digit_same : (a b : ℕ) → a < 2 → b < 2 → eqb a 1 ≡ eqb b 1 → a ≡ b
digit_same zero zero ha hb e = refl
digit_same zero (suc zero) ha hb e = absurd (eqb-false 1 1 (sym e) refl)
digit_same (suc zero) zero ha hb e = absurd (eqb-false 1 1 e refl)
digit_same (suc zero) (suc zero) ha hb e = refl
digit_same zero (suc (suc b)) ha hb e = absurd (omega arith)
digit_same (suc zero) (suc (suc b)) ha hb e = absurd (omega arith)
digit_same (suc (suc a)) b ha hb e = absurd (omega arith)

-- two numbers of n bits with the same bits are the same number
pub same_bits : (n a b : ℕ) → a < 2 ^ n → b < 2 ^ n → ((t : ℕ) → t < n → has a t ≡ has b t) → a ≡ b
same_bits zero a b ha hb e = lt-one ha ∙ sym (lt-one hb)
same_bits (suc n) a b ha hb e =
    let low : a % 2 ≡ b % 2 = digit_same (a % 2) (b % 2) (mod-lt a (zero-lt-suc 1)) (mod-lt b (zero-lt-suc 1)) (sym (has_zero a) ∙ e 0 (omega arith) ∙ has_zero b) in
    let up : a / 2 ≡ b / 2 = same_bits n (a / 2) (b / 2) (half_lt n a ha) (half_lt n b hb) (λ t h. has_half a t ∙ e (suc t) (omega arith) ∙ sym (has_half b t)) in
    sym (div-add-mod' a 2) ∙ ap (λ (x : ℕ). x * 2 + a % 2) up ∙ ap (λ (x : ℕ). b / 2 * 2 + x) low ∙ div-add-mod' b 2
  where
    half_lt : (k w : ℕ) → w < 2 ^ suc k → w / 2 < 2 ^ k
    half_lt k w h = shr_lt k 1 (rw add-one h)
