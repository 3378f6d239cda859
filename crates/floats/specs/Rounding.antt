-- What one rounding can cost: half a unit in the last place, whichever operation it ends. Assumes nothing.
use Rattle.std.specs.Prelude.{ℕ, suc, ◌+◌, ◌^◌, ◌≤◌, ◌<◌, ◌≡◌, Bool, true, Float}
use Rattle.std.specs.Float.{Format}
use Rattle.std.specs.Float.Ieee.{prec, emax, low, round, add, sub, mul, div}
use Rattle.std.specs.Float.Ieee.Scale.{finite}
use Rattle.std.specs.Float.Ieee.Positive.{num}
use Rattle.floats.specs.Fractions.{Fraction, signed, nothing, sum, difference, product, quotient, exact, Within, Close}

-- x is a, off by at most half a unit in the last place. Let half a unit be 2 ^ m / 2 ^ i: a number of `prec` digits whose last one counts units
-- goes up to 2 ^ prec units, and an a of at most that size is within 2 ^ m / 2 ^ i of x. The unit is not smaller than the format's smallest value,
-- 2 ^ -low, and a not larger than 2 ^ emax. So in an f64, with m = 0 and i = 44, what is of size 1024 at most is off by 2 ^ -44 at most.
abbrev pub OffByHalf : Format → Fraction → Float → Type 0
OffByHalf f a x =
    (m i : ℕ) → i ≤ m + suc (low f) → m + suc (prec f) ≤ emax f + i
    → Within (2 ^ (m + suc (prec f))) (2 ^ i) a nothing
    → Close (2 ^ m) (2 ^ i) x a

-- A rounded operation is off by at most half a unit in the last place, up to results of size 2 ^ emax: each against what it is without rounding.
pub record HalfUnit (f : Format) : Type 0 where
  pub rounded : (negative : Bool) (n d : ℕ) → 0 < d → OffByHalf f (signed negative n d) (round f negative n d)
  pub added : (x y : Float) → finite x ≡ true → finite y ≡ true → OffByHalf f (sum (exact x) (exact y)) (add f x y)
  pub subtracted : (x y : Float) → finite x ≡ true → finite y ≡ true → OffByHalf f (difference (exact x) (exact y)) (sub f x y)
  pub multiplied : (x y : Float) → finite x ≡ true → finite y ≡ true → OffByHalf f (product (exact x) (exact y)) (mul f x y)
  pub divided : (x y : Float) → finite x ≡ true → finite y ≡ true → 0 < num y → OffByHalf f (quotient (exact x) (exact y)) (div f x y)
