-- The sum of two finite floats is a difference of naturals over a denominator, rounded once; and it is the same in either order. Assumes nothing.
use mathlib.Core.Path.{◌≡◌, refl, sym, ap}
use mathlib.Core.Bool.{Bool, true, false, cond}
use Prim.Native.Nat.{ℕ, ◌+◌, ◌-◌, ◌*◌, ◌≤◌, ◌<◌}
use native.Mathlib.Nat.{add_comm, mul-pos}
use native.Mathlib.Omega.{arith}
use lib.Dec.{ltb}
use lib.Ieee.{Float, Format, round, sum, le}
use borrow.Author.Tests.{ltb-true, ltb-false}
use Rattle.floats.specs.Fractions.{Fraction, plus, less}
use Rattle.floats.proofs.Signed.{AtMost, plus_mul, less_mul, shifted}
use Rattle.floats.proofs.Round.{round_signed_mono}

-- x is a, rounded once
pub record Rounded (f : Format) (a : Fraction) (x : Float) : Type 0 where
  pub sign : Bool
  pub size : ℕ
  pub is : x ≡ round f sign size a.per
  pub balance : plus sign size + a.less ≡ less sign size + a.plus

pub rounded_mono : (f : Format) (a b : Fraction) {x y : Float}
    → Rounded f a x → Rounded f b y → 0 < a.per → 0 < b.per → a.plus * b.per + b.less * a.per ≤ b.plus * a.per + a.less * b.per → le x y ≡ true
rounded_mono f a b X Y A B h =
    let x_scaled : (plus X.sign X.size + a.less) * b.per ≡ (less X.sign X.size + a.plus) * b.per = ap (λ n. n * b.per) X.balance in
    let y_scaled : (plus Y.sign Y.size + b.less) * a.per ≡ (less Y.sign Y.size + b.plus) * a.per = ap (λ n. n * a.per) Y.balance in
    rw (X.is, Y.is) (round_signed_mono f X.sign X.size a.per Y.sign Y.size b.per A B (simp (plus_mul, less_mul) (omega arith)))

-- ±a / c + ±b / c, before it is rounded
abbrev pub summed : Bool → ℕ → Bool → ℕ → ℕ → Fraction
summed s a t b c = record { plus = plus s a + plus t b; less = less s a + less t b; per = c }

pub sum_rounded : (f : Format) (s : Bool) (a : ℕ) (t : Bool) (b c : ℕ) → Rounded f (summed s a t b c) (sum f s a t b c)
unfolding sum
sum_rounded f false a false b c = record { sign = false; size = a + b; is = refl; balance = omega arith }
sum_rounded f true a true b c = record { sign = true; size = a + b; is = refl; balance = omega arith }
sum_rounded f false a true b c = go (ltb a b) refl
  where
    go : (x : Bool) → ltb a b ≡ x → Rounded f (summed false a true b c) (cond x (round f true (b - a) c) (round f false (a - b) c))
    go true e = record { sign = true; size = b - a; is = refl; balance = omega (arith, ltb-true a b e) }
    go false e = record { sign = false; size = a - b; is = refl; balance = omega (arith, ltb-false a b e) }
sum_rounded f true a false b c = go (ltb a b) (ltb b a) refl refl
  where
    go : (x y : Bool) → ltb a b ≡ x → ltb b a ≡ y → Rounded f (summed true a false b c) (cond x (round f false (b - a) c) (round f y (a - b) c))
    go true y e d = record { sign = false; size = b - a; is = refl; balance = omega (arith, ltb-true a b e) }
    go false true e d = record { sign = true; size = a - b; is = refl; balance = omega (arith, ltb-false a b e) }
    go false false e d = record { sign = false; size = a - b; is = refl; balance = omega (arith, ltb-false a b e, ltb-false b a d) }

-- ±a / x ≤ ±b / y, and ±r / z added to both: each sum is over the product of its denominators, as `add` makes it
pub sum_mono : (f : Format) (s : Bool) (a x : ℕ) (t : Bool) (b y : ℕ) (u : Bool) (r z : ℕ) → 0 < x → 0 < y → 0 < z → AtMost s (a * y) t (b * x)
    → le (sum f s (a * z) u (r * x) (x * z)) (sum f t (b * z) u (r * y) (y * z)) ≡ true
sum_mono f s a x t b y u r z X Y Z h =
    let apart : plus s a * y + less t b * x ≤ plus t b * x + less s a * y = simp (plus_mul, less_mul) at h in
    rounded_mono f (summed s (a * z) u (r * x) (x * z)) (summed t (b * z) u (r * y) (y * z))
    (sum_rounded f s (a * z) u (r * x) (x * z))
    (sum_rounded f t (b * z) u (r * y) (y * z))
    (mul-pos X Z)
    (mul-pos Y Z)
    (simp (plus_mul, less_mul) (shifted (plus s a) (less s a) x (plus t b) (less t b) y (plus u r) (less u r) z apart))

-- ---- the order of the summands
unlike_comm : (f : Format) (a b c : ℕ) → sum f false a true b c ≡ sum f true b false a c
unfolding sum
unlike_comm f a b c = go (ltb a b) (ltb b a) refl refl
  where
    go : (x y : Bool) → ltb a b ≡ x → ltb b a ≡ y → cond x (round f true (b - a) c) (round f false (a - b) c) ≡ cond y (round f false (a - b) c) (round f x (b - a) c)
    go true true e d = absurd (omega (arith, ltb-true a b e, ltb-true b a d))
    go true false e d = refl
    go false true e d = refl
    go false false e d = ap (λ n. round f false n c) (omega (arith, ltb-false a b e, ltb-false b a d))

pub sum_comm : (f : Format) (s : Bool) (a : ℕ) (t : Bool) (b c : ℕ) → sum f s a t b c ≡ sum f t b s a c
unfolding sum
sum_comm f false a false b c = ap (λ n. round f false n c) (add_comm a b)
sum_comm f true a true b c = ap (λ n. round f true n c) (add_comm a b)
sum_comm f false a true b c = unlike_comm f a b c
sum_comm f true a false b c = sym (unlike_comm f b a c)
