-- Whole numbers and fractions with a sign, as the two naturals that they add and take away: their order, and the order's laws.
-- ±a / c is (plus s a - less s a) / c, so that an order of two of them is one of sums of naturals, with no case for the signs.
-- Assumes nothing.
use mathlib.Core.Path.{◌≡◌, refl, sym}
use mathlib.Core.Bool.{Bool, true, false, not}
use Prim.Native.Nat.{ℕ, ◌+◌, ◌*◌, ◌≤◌, ◌<◌}
use native.Mathlib.Nat.{zero-mul, mul-le-mul_right, le_of_mul-le-mul_right}
use native.Mathlib.Omega.{arith}
use Rattle.floats.specs.Fractions.{plus, less}

-- ±a is at most ±b
abbrev pub AtMost : Bool → ℕ → Bool → ℕ → Type 0
AtMost s a t b = plus s a + less t b ≤ plus t b + less s a

pub plus_mul : (s : Bool) (a c : ℕ) → plus s (a * c) ≡ plus s a * c
plus_mul false a c = refl
plus_mul true a c = sym (zero-mul c)

pub less_mul : (s : Bool) (a c : ℕ) → less s (a * c) ≡ less s a * c
less_mul false a c = sym (zero-mul c)
less_mul true a c = refl

-- (p - l) / c ≤ (q - k) / d ≤ (r - j) / b
pub through : (p l c q k d r j b : ℕ)
    → 0 < d → p * d + k * c ≤ q * c + l * d → q * b + j * d ≤ r * d + k * b → p * b + j * c ≤ r * c + l * b
through p l c q k d r j b D h g =
    let scaled : (p * b + j * c) * d ≤ (r * c + l * b) * d = omega (arith, mul-le-mul_right b h, mul-le-mul_right c g) in
    le_of_mul-le-mul_right scaled D

-- ±a / c ≤ ±b / d ≤ ±n / m
pub at_most_trans : (s : Bool) (a c : ℕ) (t : Bool) (b d : ℕ) (u : Bool) (n m : ℕ)
    → 0 < d → AtMost s (a * d) t (b * c) → AtMost t (b * m) u (n * d) → AtMost s (a * m) u (n * c)
at_most_trans s a c t b d u n m D h g =
    simp (plus_mul, less_mul)
    (through (plus s a) (less s a) c (plus t b) (less t b) d (plus u n) (less u n) m D (simp (plus_mul, less_mul) at h) (simp (plus_mul, less_mul) at g))

-- with the signs turned round the order is turned round
pub at_most_mirror : (s : Bool) (a : ℕ) (t : Bool) (b : ℕ) → AtMost s a t b → AtMost (not t) b (not s) a
at_most_mirror false a false b h = omega arith
at_most_mirror false a true b h = omega arith
at_most_mirror true a false b h = omega arith
at_most_mirror true a true b h = omega arith

-- one number added to both: (p - l) / c ≤ (q - k) / d gives (p - l) / c + (r - j) / b ≤ (q - k) / d + (r - j) / b
pub shifted : (p l c q k d r j b : ℕ) → p * d + k * c ≤ q * c + l * d
    → (p * b + r * c) * (d * b) + (k * b + j * d) * (c * b) ≤ (q * b + r * d) * (c * b) + (l * b + j * c) * (d * b)
shifted p l c q k d r j b h = omega (arith, mul-le-mul_right (b * b) h)
