-- The test for the same bytes is equality. Assumes nothing.
use Prim.Native.Nat.{ℕ}
use mathlib.Core.Path.{◌≡◌, refl, ap₂, subst, sym}
use mathlib.Core.Bool.{true, true≢false}
use mathlib.Core.List.{List, [], ◌∷◌}
use lib.Dec.{eqb}
use borrow.Author.Tests.{eqb-true, eq-eqb}
pub use Rattle.units.proofs.Tests.{both}
use Rattle.text_entries.specs.Entries.{same_bytes}

pub same_equal : (xs ys : List ℕ) → same_bytes xs ys ≡ true → xs ≡ ys
same_equal [] [] e = refl
same_equal [] (y ∷ ys) e = absurd (true≢false (sym e))
same_equal (x ∷ xs) [] e = absurd (true≢false (sym e))
same_equal (x ∷ xs) (y ∷ ys) e =
    let parts = both (eqb x y) (same_bytes xs ys) e in
    ap₂ ◌∷◌ (eqb-true x y parts.0) (same_equal xs ys parts.1)

pub same_itself : (xs : List ℕ) → same_bytes xs xs ≡ true
same_itself [] = refl
same_itself (x ∷ xs) = rw (eq-eqb x x refl) (same_itself xs)

pub equal_same : (xs ys : List ℕ) → xs ≡ ys → same_bytes xs ys ≡ true
equal_same xs ys e = subst (λ zs. same_bytes xs zs ≡ true) e (same_itself xs)
