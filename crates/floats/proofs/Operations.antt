-- An operation on two finite floats is the exact result, rounded once. Assumes nothing.
use mathlib.Core.Path.{◌≡◌, refl, sym, ap, subst}
use mathlib.Core.Bool.{Bool, true, false, not, true≢false}
use Prim.Native.Nat.{ℕ, zero, suc, ◌+◌, ◌-◌, ◌*◌, ◌<◌}
use native.Mathlib.Nat.{mul_comm, mul-pos}
use native.Mathlib.Omega.{arith}
use lib.Dec.{eqb-suc-zero}
use lib.Ieee.{Float, nan, inf, fin, Format, up, down, unlike, round, neg, add, sub, mul, div}
use lib.Ieee.Fits.{down_pos}
use lib.Ieee.Scale.{finite}
use lib.Ieee.Positive.{num}
use borrow.Author.Tests.{lt-ltb, le-ltb}
use Rattle.floats.specs.Fractions.{plus, less, signed, sum, opposite, difference, product, inverse, quotient, exact}
use Rattle.floats.proofs.Signed.{plus_mul, less_mul}
use Rattle.floats.proofs.Sum.{Rounded, sum_rounded}

pub exact_per : (x : Float) → 0 < (exact x).per
exact_per nan = omega arith
exact_per (inf s) = omega arith
exact_per (fin s m e) = down_pos e

no_nan : {A : Type 0} → finite nan ≡ true → A
no_nan h = absurd (true≢false (sym h))

no_infinity : {A : Type 0} (s : Bool) → finite (inf s) ≡ true → A
no_infinity s h = absurd (true≢false (sym h))

-- ---- sum and difference
signed_sum : (f : Format) (s : Bool) (a c : ℕ) (t : Bool) (b d : ℕ) → Rounded f (sum (signed s a c) (signed t b d)) (lib.Ieee.sum f s (a * d) t (b * c) (c * d))
signed_sum f s a c t b d = simp (plus_mul, less_mul) at (sum_rounded f s (a * d) t (b * c) (c * d))

pub add_rounded : (f : Format) (x y : Float) → finite x ≡ true → finite y ≡ true → Rounded f (sum (exact x) (exact y)) (add f x y)
unfolding add
add_rounded f nan y X Y = no_nan X
add_rounded f (inf s) y X Y = no_infinity s X
add_rounded f (fin s m e) nan X Y = no_nan Y
add_rounded f (fin s m e) (inf t) X Y = no_infinity t Y
add_rounded f (fin s m e) (fin t n d) X Y = signed_sum f s (m * up e) (down e) t (n * up d) (down d)

signed_opposite : (s : Bool) (a c : ℕ) → signed (not s) a c ≡ opposite (signed s a c)
signed_opposite false a c = refl
signed_opposite true a c = refl

exact_neg : (x : Float) → exact (neg x) ≡ opposite (exact x)
unfolding neg
exact_neg nan = refl
exact_neg (inf s) = refl
exact_neg (fin s m e) = signed_opposite s (m * up e) (down e)

finite_neg : (x : Float) → finite x ≡ true → finite (neg x) ≡ true
unfolding neg
finite_neg nan h = h
finite_neg (inf s) h = h
finite_neg (fin s m e) h = h

pub sub_rounded : (f : Format) (x y : Float) → finite x ≡ true → finite y ≡ true → Rounded f (difference (exact x) (exact y)) (sub f x y)
unfolding sub
sub_rounded f x y X Y = rw (exact_neg y) at (add_rounded f x (neg y) X (finite_neg y Y))

-- ---- product and quotient
product_balance : (s t : Bool) (a b c d : ℕ)
    → plus (unlike s t) (a * b) + (product (signed s a c) (signed t b d)).less ≡ less (unlike s t) (a * b) + (product (signed s a c) (signed t b d)).plus
product_balance false false a b c d = omega arith
product_balance false true a b c d = omega arith
product_balance true false a b c d = omega arith
product_balance true true a b c d = omega arith

pub mul_rounded : (f : Format) (x y : Float) → finite x ≡ true → finite y ≡ true → Rounded f (product (exact x) (exact y)) (mul f x y)
unfolding mul
mul_rounded f nan y X Y = no_nan X
mul_rounded f (inf s) y X Y = no_infinity s X
mul_rounded f (fin s m e) nan X Y = no_nan Y
mul_rounded f (fin s m e) (inf t) X Y = no_infinity t Y
mul_rounded f (fin s m e) (fin t n d) X Y =
    record { sign = unlike s t; size = m * up e * (n * up d); is = refl; balance = product_balance s t (m * up e) (n * up d) (down e) (down d) }

signed_inverse : (s : Bool) (a c : ℕ) → 0 < a → inverse (signed s a c) ≡ signed s c a
signed_inverse false a c A =
    let size : a - 0 + (0 - a) ≡ a = omega arith in
    rw (le-ltb a 0 (omega arith), size)
signed_inverse true a c A =
    let size : 0 - a + (a - 0) ≡ a = omega arith in
    rw (lt-ltb 0 a A, size)

signed_quotient : (f : Format) (s : Bool) (a c : ℕ) (t : Bool) (b d : ℕ) → 0 < b → Rounded f (quotient (signed s a c) (signed t b d)) (round f (unlike s t) (a * d) (b * c))
signed_quotient f s a c t b d B =
    subst (λ i. Rounded f (product (signed s a c) i) (round f (unlike s t) (a * d) (b * c))) (sym (signed_inverse t b d B))
    (record { sign = unlike s t; size = a * d; is = ap (λ n. round f (unlike s t) (a * d) n) (mul_comm b c); balance = product_balance s t a d c b })

pub div_rounded : (f : Format) (x y : Float) → finite x ≡ true → finite y ≡ true → 0 < num y → Rounded f (quotient (exact x) (exact y)) (div f x y)
unfolding div
div_rounded f nan y X Y N = no_nan X
div_rounded f (inf s) y X Y N = no_infinity s X
div_rounded f (fin s m e) nan X Y N = no_nan Y
div_rounded f (fin s m e) (inf t) X Y N = no_infinity t Y
div_rounded f (fin s m e) (fin t zero d) X Y N = absurd (omega arith)
div_rounded f (fin s m e) (fin t (suc n) d) X Y N = rw (eqb-suc-zero n) (signed_quotient f s (m * up e) (down e) t (suc n * up d) (down d) N)

-- ---- the denominators
pub sum_per : (x y : Float) → 0 < (sum (exact x) (exact y)).per
sum_per x y = mul-pos (exact_per x) (exact_per y)

pub quotient_per : (x y : Float) → 0 < num y → 0 < (quotient (exact x) (exact y)).per
quotient_per x nan N = absurd (omega arith)
quotient_per x (inf t) N = absurd (omega arith)
quotient_per x (fin t n d) N = subst (λ i. 0 < (product (exact x) i).per) (sym (signed_inverse t (n * up d) (down d) N)) (mul-pos (exact_per x) N)
