-- Fractions with a sign over whole numbers, and how far a float is from one. A fraction is (plus − less) / per, so that a difference needs no whole number
-- below 0, and two of them are compared with the denominators multiplied out. A denominator is meant to be above 0. Assumes nothing.
use Rattle.std.specs.Prelude.{ℕ, ◌+◌, ◌-◌, ◌*◌, ◌≤◌, ◌≡◌, Bool, true, false, ltb, Float}
use Rattle.std.specs.Float.{nan, inf, fin}
use Rattle.std.specs.Float.Ieee.{up, down}
use Rattle.std.specs.Float.Ieee.Scale as Scale

pub record Fraction : Type 0 where
  pub plus : ℕ
  pub less : ℕ
  pub per : ℕ

-- what ±n adds, and what it takes away
abbrev pub plus : Bool → ℕ → ℕ
plus false n = n
plus true n = 0

abbrev pub less : Bool → ℕ → ℕ
less false n = 0
less true n = n

-- ±n / d, with a minus where `negative` is true
abbrev pub signed : (negative : Bool) → (n d : ℕ) → Fraction
signed negative n d = record { plus = plus negative n; less = less negative n; per = d }

abbrev pub nothing : Fraction
nothing = record { plus = 0; less = 0; per = 1 }

-- a + b, −a, a − b, a · b
abbrev pub sum : Fraction → Fraction → Fraction
sum a b = record { plus = a.plus * b.per + b.plus * a.per; less = a.less * b.per + b.less * a.per; per = a.per * b.per }

abbrev pub opposite : Fraction → Fraction
opposite a = record { plus = a.less; less = a.plus; per = a.per }

abbrev pub difference : Fraction → Fraction → Fraction
difference a b = sum a (opposite b)

abbrev pub product : Fraction → Fraction → Fraction
product a b = record { plus = a.plus * b.plus + a.less * b.less; less = a.plus * b.less + a.less * b.plus; per = a.per * b.per }

-- 1 / a and a / b, for a divisor that is not 0
abbrev pub inverse : Fraction → Fraction
inverse a = signed (ltb a.plus a.less) a.per (a.plus - a.less + (a.less - a.plus))

abbrev pub quotient : Fraction → Fraction → Fraction
quotient a b = product a (inverse b)

-- a ≤ b + k / d
abbrev pub UpTo : (k d : ℕ) → Fraction → Fraction → Type 0
UpTo k d a b = a.plus * d * b.per + b.less * d * a.per ≤ b.plus * d * a.per + a.less * d * b.per + k * (a.per * b.per)

-- a and b are at most k / d apart
pub record Within (k d : ℕ) (a b : Fraction) : Type 0 where
  pub above : UpTo k d a b
  pub below : UpTo k d b a

-- the number that a finite float is; a NaN and an infinity are none, and 0 here
abbrev pub exact : Float → Fraction
exact nan = nothing
exact (inf negative) = nothing
exact (fin negative m e) = signed negative (m * up e) (down e)

-- x is a number, and at most k / d from a
pub record Close (k d : ℕ) (x : Float) (a : Fraction) : Type 0 where
  pub finite : Scale.finite x ≡ true
  pub near : Within k d (exact x) a
