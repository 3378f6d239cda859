-- A whole number below 2^53 over a power of ten up to 10^22: both are floats, so the quotient is rounded once. Assumes nothing.
use Rattle.std.proofs.Common.{◌≡◌, ℕ, zero, suc, ◌+◌, ◌*◌, ◌^◌, ◌<◌, ◌≤◌, false, List, [], ◌∷◌, map, length, get_or, pos, sym, refl, ap, ◌∙◌, lt_of_lt_of_le, le_of_suc-le-suc, not-suc-le-zero, add-zero, mul_assoc, mul_comm, mul-pos, pow-suc, zero-add, mul-one, mul_left_comm, arith, lit<, pow_pos, pow_mono, shl_lt, ne_eqb}
use native.Mathlib.Nat.{one-le-pow}
use lib.Ieee.{Float, nan, inf, fin, binary64, emax, low, up, down, round, div, of_int}
use lib.Ieee.Exact.{HasValue, round_exact}
use lib.Ieee.Fits.{down_pos}
use lib.Ieee.Scale.{round_same}
use Rattle.units.specs.Decimals.{decimal}
use Rattle.units.proofs.Tables.{made_at}

-- ---- powers of ten

abbrev pub power : ℕ → Float
power k = fin false (5 ^ k) (pos k)

ten : (k : ℕ) → 10 ^ k ≡ 5 ^ k * 2 ^ k
ten zero = refl
ten (suc k) =
    let h = ten k in
    rw (pow-suc 10 k, pow-suc 5 k, pow-suc 2 k, h) (simp (mul_assoc, mul_comm, mul_left_comm) (omega arith))

unfoldable pub up_from : ℕ → ℕ → List ℕ
up_from i zero = []
up_from i (suc n) = i ∷ up_from (suc i) n

up_at : (i n k : ℕ) → k < n → get_or (up_from i n) k 0 ≡ i + k
unfolding up_from
up_at i zero k h = absurd (not-suc-le-zero h)
up_at i (suc n) zero h = sym (add-zero i)
up_at i (suc n) (suc k) h = let e = up_at (suc i) n k (le_of_suc-le-suc h) in omega arith

up_length : (i n : ℕ) → length (up_from i n) ≡ n
unfolding up_from
up_length i zero = refl
up_length i (suc n) = ap suc (up_length (suc i) n)

-- ---- the quotient

-- below the largest float
below_all : (n l e : ℕ) → n < 2 ^ 53 → 53 ≤ e → n * 2 ^ l < 2 ^ (l + e)
below_all n l e h k = lt_of_lt_of_le (shl_lt 53 l h) (pow_mono (omega arith))

-- a whole number below 2^53 is a float
whole_number : (n : ℕ) → n < 2 ^ 53 → HasValue (round binary64 false n 1) false n 1
whole_number n h =
    round_exact binary64 false n 1 n (low binary64) (lit< tt) h (below_all n (low binary64) (suc (emax binary64)) h (omega arith)) (sym (mul-one (n * 2 ^ low binary64)))

-- two fractions of one size
same_size : (m u d n p : ℕ) → m * u * 1 ≡ n * d → m * u * 1 * p ≡ n * (p * d)
same_size m u d n p e = rw e (simp (mul_assoc, mul_comm, mul_left_comm))

-- its quotient by a power of ten
quotient : (x : Float) (n k : ℕ) → HasValue x false n 1 → div binary64 x (power k) ≡ round binary64 false n (10 ^ k)
unfolding div
quotient nan n k v = absurd v
quotient (inf t) n k v = absurd v
quotient (fin t m e) n k v =
    let some = one-le-pow k 5 (lit< tt) in
    rw (v.0, ne_eqb (5 ^ k) 0 (λ z. absurd (omega arith)))
    (round_same binary64 false (m * up e * 1) (5 ^ k * 2 ^ k * down e) n (10 ^ k) (mul-pos (mul-pos some (pow_pos k)) (down_pos e)) (one-le-pow k 10 (lit< tt))
    (rw (ten k) (same_size m (up e) (down e) n (5 ^ k * 2 ^ k) v.1)))

pub quotient_at : (powers : List Float) → powers ≡ map power (up_from 0 23) → (x : Float) (n k : ℕ) → x ≡ of_int binary64 (pos n) → n < 10 ^ 15 → k ≤ 22
    → div binary64 x (get_or powers k nan) ≡ decimal false n (10 ^ k)
unfolding of_int decimal
quotient_at powers e x n k v few short =
    let inside : k < length (up_from 0 23) = rw (up_length 0 23) (omega arith) in
    let at : get_or powers k nan ≡ power k = rw e (made_at power (up_from 0 23) k 0 nan inside ∙ ap power (up_at 0 23 k (omega arith) ∙ zero-add k)) in
    rw (at, v) (quotient (round binary64 false n 1) n k (whole_number n (omega arith)))
