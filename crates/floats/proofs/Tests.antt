-- The two ways that a test can go, as facts. `borrow.Author.Tests` has the like for tests of numbers. Nothing here is about floats. Assumes nothing.
use mathlib.Core.Path.{◌≡◌, refl, sym, ◌∙◌, subst}
use mathlib.Core.Logic.{◌⊎◌, inl, inr}
use mathlib.Core.Bool.{Bool, true, false, ◌&&◌, ◌||◌, true≢false, false≢true, or-true as true-on-right}
use lib.Dec.{T}

pub true→T : {b : Bool} → b ≡ true → T b
true→T e = subst T (sym e) tt

pub T→true : (b : Bool) → T b → b ≡ true
T→true true t = refl
T→true false t = absurd t

pub true_or_false : (b : Bool) → (b ≡ true) ⊎ (b ≡ false)
true_or_false true = inl refl
true_or_false false = inr refl

pub not_both : {b : Bool} → b ≡ true → b ≡ false → ⊥
not_both p q = true≢false (sym p ∙ q)

-- two tests that pass together are one test
pub same_test : (a b : Bool) → (a ≡ true → b ≡ true) → (b ≡ true → a ≡ true) → a ≡ b
same_test true b f g = sym (f refl)
same_test false true f g = g refl
same_test false false f g = refl

-- ---- either, and both
pub or_true : (a b : Bool) → a || b ≡ true → (a ≡ true) ⊎ (b ≡ true)
or_true true b e = inl refl
or_true false b e = inr e

pub or_left : (a b : Bool) → a ≡ true → a || b ≡ true
or_left a b e = rw e

pub or_right : (a b : Bool) → b ≡ true → a || b ≡ true
or_right a b e = rw e (true-on-right a)

pub and_left : (a b : Bool) → a && b ≡ true → a ≡ true
and_left true b e = refl
and_left false b e = e

pub and_right : (a b : Bool) → a && b ≡ true → b ≡ true
and_right true b e = e
and_right false b e = absurd (false≢true e)
