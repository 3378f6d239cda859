-- Good and bad values: each value is the one or the other, a good one is no NaN, what is above a good one is good, and what is below a bad one is bad.
-- Assumes nothing.
use mathlib.Core.Path.{◌≡◌, refl}
use mathlib.Core.Logic.{◌⊎◌, ⊎_elim}
use mathlib.Core.Bool.{Bool, true, false}
use Prim.Native.Nat.{ℕ}
use lib.IntN.{ℤ}
use lib.Ieee.{Float, nan, inf, fin, binary64, of_bits, lt, le}
use Rattle.floats.specs.Values.{Number, Good, Bad}
use Rattle.floats.proofs.Tests.{true_or_false, not_both}
use Rattle.floats.proofs.Order.{lt_number_right, lt_le_trans, le_refl}

pub good_or_bad : (x : Float) → Good x ⊎ Bad x
good_or_bad x = true_or_false (lt (inf true) x)

pub good_not_bad : (x : Float) → Good x → Bad x → ⊥
good_not_bad x g b = not_both g b

pub good_number : (x : Float) → Good x → Number x
good_number x g = lt_number_right (inf true) x g

pub good_up : (x y : Float) → Good x → le x y ≡ true → Good y
good_up x y g h = lt_le_trans (inf true) x y g h

pub bad_down : (x y : Float) → Bad y → le x y ≡ true → Bad x
bad_down x y b h = ⊎_elim (λ g. absurd (good_not_bad y (good_up x y g h) b)) (λ k. k) (good_or_bad x)

pub good_le_refl : (x : Float) → Good x → le x x ≡ true
good_le_refl x g = le_refl x (good_number x g)

-- ---- which values are good
pub infinity_good : Good (inf false)
unfolding lt
infinity_good = refl

pub finite_good : (s : Bool) (m : ℕ) (e : ℤ) → Good (fin s m e)
unfolding lt
finite_good s m e = refl

-- the literal 0.0, as the code's proofs have it
pub zero_good : Good (of_bits binary64 0)
unfolding lt of_bits
zero_good = refl

pub nan_bad : Bad nan
unfolding lt
nan_bad = refl

pub minus_infinity_bad : Bad (inf true)
unfolding lt
minus_infinity_bad = refl
