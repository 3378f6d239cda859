-- The order of floats: on values that are no NaN `le` is reflexive, transitive and total, and `lt` is its strict part.
-- All values are meant: infinities, zeros of both signs, and finite ones whether or not a format holds them. Assumes nothing.
use mathlib.Core.Path.{◌≡◌, refl, sym, ◌∙◌, ap}
use mathlib.Core.Logic.{◌⊎◌, inl, inr, ⊎_elim}
use mathlib.Core.Bool.{true, false, not, true≢false, false≢true}
use Prim.Native.Nat.{◌*◌}
use native.Mathlib.Omega.{arith}
use lib.Ieee.{Float, nan, inf, fin, up, down, lt, eq, le, is_nan}
use lib.Ieee.Fits.{down_pos}
use borrow.Author.Tests.{not-true, not-false}
use Rattle.floats.specs.Values.{Number}
use Rattle.floats.proofs.Tests.{true_or_false, not_both, or_true, or_left, or_right}
use Rattle.floats.proofs.Signed.{at_most_trans}
use Rattle.floats.proofs.Finite.{finite_le, finite_at_most, finite_lt}

-- ---- each comparison that holds gives `le`, and that its two sides are no NaN
pub lt→le : (x y : Float) → lt x y ≡ true → le x y ≡ true
unfolding le
lt→le x y h = or_left (lt x y) (eq x y) h

pub eq→le : (x y : Float) → eq x y ≡ true → le x y ≡ true
unfolding le
eq→le x y h = or_right (lt x y) (eq x y) h

le_nan : (x : Float) → le x nan ≡ false
unfolding le
le_nan nan = refl
le_nan (inf s) = refl
le_nan (fin s m e) = refl

pub le_number_left : (x y : Float) → le x y ≡ true → Number x
unfolding le is_nan
le_number_left nan y h = sym h
le_number_left (inf s) y h = refl
le_number_left (fin s m e) y h = refl

pub le_number_right : (x y : Float) → le x y ≡ true → Number y
unfolding is_nan
le_number_right x nan h = absurd (not_both h (le_nan x))
le_number_right x (inf t) h = refl
le_number_right x (fin t n d) h = refl

pub lt_number_left : (x y : Float) → lt x y ≡ true → Number x
lt_number_left x y h = le_number_left x y (lt→le x y h)

pub lt_number_right : (x y : Float) → lt x y ≡ true → Number y
lt_number_right x y h = le_number_right x y (lt→le x y h)

-- ---- `lt` is the strict part of `le`
pub lt_is : (x y : Float) → Number x → Number y → lt x y ≡ not (le y x)
unfolding le is_nan
lt_is nan y p q = absurd (true≢false p)
lt_is (inf s) nan p q = absurd (true≢false q)
lt_is (inf true) (inf true) p q = refl
lt_is (inf true) (inf false) p q = refl
lt_is (inf false) (inf true) p q = refl
lt_is (inf false) (inf false) p q = refl
lt_is (inf true) (fin t n d) p q = refl
lt_is (inf false) (fin t n d) p q = refl
lt_is (fin s m e) nan p q = absurd (true≢false q)
lt_is (fin s m e) (inf true) p q = refl
lt_is (fin s m e) (inf false) p q = refl
lt_is (fin s m e) (fin t n d) p q = finite_lt s m e t n d

pub lt→not_le : (x y : Float) → lt x y ≡ true → le y x ≡ false
lt→not_le x y h = not-true (le y x) (sym (lt_is x y (lt_number_left x y h) (lt_number_right x y h)) ∙ h)

pub not_le→lt : (x y : Float) → Number x → Number y → le y x ≡ false → lt x y ≡ true
not_le→lt x y p q h = lt_is x y p q ∙ ap not h

pub not_lt→le : (x y : Float) → Number x → Number y → lt x y ≡ false → le y x ≡ true
not_lt→le x y p q h = not-false (le y x) (sym (lt_is x y p q) ∙ h)

-- ---- the two ends
pub bottom_le : (x : Float) → Number x → le (inf true) x ≡ true
unfolding le is_nan
bottom_le nan p = sym p
bottom_le (inf true) p = refl
bottom_le (inf false) p = refl
bottom_le (fin s m e) p = refl

pub le_top : (x : Float) → Number x → le x (inf false) ≡ true
unfolding le is_nan
le_top nan p = sym p
le_top (inf true) p = refl
le_top (inf false) p = refl
le_top (fin s m e) p = refl

pub above_top : (x : Float) → le (inf false) x ≡ true → x ≡ inf false
unfolding le
above_top nan h = absurd (false≢true h)
above_top (inf true) h = absurd (false≢true h)
above_top (inf false) h = refl
above_top (fin s m e) h = absurd (false≢true h)

-- ---- the laws of `le`
pub le_refl : (x : Float) → Number x → le x x ≡ true
unfolding le is_nan
le_refl nan p = sym p
le_refl (inf true) p = refl
le_refl (inf false) p = refl
le_refl (fin s m e) p = finite_le s m e s m e (omega arith)

pub le_of_eq : (x y : Float) → Number x → x ≡ y → le x y ≡ true
le_of_eq x y p e = rw (← e) (le_refl x p)

pub le_trans : (x y z : Float) → le x y ≡ true → le y z ≡ true → le x z ≡ true
unfolding le
le_trans nan y z h k = h
le_trans (inf true) y z h k = bottom_le z (le_number_right y z k)
le_trans (inf false) y z h k = rw (above_top y h) at k
le_trans (fin s m e) nan z h k = absurd (false≢true h)
le_trans (fin s m e) (inf true) z h k = absurd (false≢true h)
le_trans (fin s m e) (inf false) z h k = rw (above_top z k)
le_trans (fin s m e) (fin t n d) nan h k = k
le_trans (fin s m e) (fin t n d) (inf u) h k = k
le_trans (fin s m e) (fin t n d) (fin u l c) h k =
    finite_le s m e u l c
    (at_most_trans s (m * up e) (down e) t (n * up d) (down d) u (l * up c) (down c) (down_pos d) (finite_at_most s m e t n d h) (finite_at_most t n d u l c k))

pub le_total : (x y : Float) → Number x → Number y → (le x y ≡ true) ⊎ (le y x ≡ true)
le_total x y p q = ⊎_elim (λ h. inl h) (λ h. inr (lt→le y x (not_le→lt y x q p h))) (true_or_false (le x y))

-- two values in order both ways are one number: they may differ in a zero's sign, or in how the number is written
pub le_antisymm : (x y : Float) → le x y ≡ true → le y x ≡ true → eq x y ≡ true
unfolding le
le_antisymm x y h k = ⊎_elim (λ g. absurd (not_both k (lt→not_le x y g))) (λ g. g) (or_true (lt x y) (eq x y) h)

-- ---- the laws of `lt`: one strict step makes a chain strict
pub lt_irrefl : (x : Float) → lt x x ≡ false
lt_irrefl x = ⊎_elim (λ h. absurd (not_both (lt→le x x h) (lt→not_le x x h))) (λ h. h) (true_or_false (lt x x))

pub lt_le_trans : (x y z : Float) → lt x y ≡ true → le y z ≡ true → lt x z ≡ true
lt_le_trans x y z h k =
    ⊎_elim (λ g. absurd (not_both (le_trans y z x k g) (lt→not_le x y h))) (λ g. not_le→lt x z (lt_number_left x y h) (le_number_right y z k) g) (true_or_false (le z x))

pub le_lt_trans : (x y z : Float) → le x y ≡ true → lt y z ≡ true → lt x z ≡ true
le_lt_trans x y z h k =
    ⊎_elim (λ g. absurd (not_both (le_trans z x y g h) (lt→not_le y z k))) (λ g. not_le→lt x z (le_number_left x y h) (lt_number_right y z k) g) (true_or_false (le z x))

pub lt_trans : (x y z : Float) → lt x y ≡ true → lt y z ≡ true → lt x z ≡ true
lt_trans x y z h k = lt_le_trans x y z h (lt→le y z k)
