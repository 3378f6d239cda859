-- The position of a strand among a set's strands, as the code counts it and as the ledger says it. Assumes nothing.
use mathlib.Core.Path.{◌≡◌, refl, sym, ap, ap₂, ◌∙◌}
use mathlib.Core.Logic.{⊎_elim}
use mathlib.Core.Bool.{Bool, true, false, cond}
use mathlib.Core.List.{List, [], ◌∷◌, ◌++◌}
use Prim.Native.Nat.{ℕ, zero, suc, ◌+◌, ◌≤◌, ◌<◌, suc-le-suc}
use native.Mathlib.Nat.{zero-add, add-zero, add_assoc, eq-or-lt_of_le, le_of_suc-le-suc}
use native.Mathlib.Numerals.{one-add}
use native.Mathlib.Omega.{arith}
use lib.Dec.{ltb}
use lib.ListN.{length, get_or}
use borrow.Author.Tests.{lt-ltb, le-ltb}
use Rattle.sets.specs.Set.{alone, members}
use Rattle.sets.proofs.Members.{member}
use Rattle.ledger_rows.specs.Trace.{below}

below_append : (xs ys : List ℕ) (t : ℕ) → below (xs ++ ys) t ≡ below xs t + below ys t
unfolding below
below_append [] ys t = sym (zero-add (below ys t))
below_append (s ∷ xs) ys t = ap (λ n. cond (ltb s t) 1 0 + n) (below_append xs ys t) ∙ sym (add_assoc (cond (ltb s t) 1 0) (below xs t) (below ys t))

-- all of a list is below what is above each of it
below_all : (l : List ℕ) (t : ℕ) → ((p : ℕ) → p < length l → get_or l p 0 < t) → below l t ≡ length l
unfolding below
below_all [] t under = refl
below_all (s ∷ l) t under = rw (lt-ltb s t (under 0 (omega arith)), below_all l t (λ p h. under (suc p) (suc-le-suc h))) (one-add (length l))

below_alone : (b : Bool) (s t : ℕ) → t ≤ s → below (alone b s) t ≡ 0
unfolding below
below_alone true s t h = rw (le-ltb s t h)
below_alone false s t h = refl

module _ (legal : ℕ → Bool) where
  -- past the last strand all are below
  pub below_past : (n t : ℕ) → n ≤ t → below (members legal n) t ≡ length (members legal n)
  below_past n t h = below_all (members legal n) t (λ p l. omega (arith, (member legal n p 0 l).below))

  -- the strands of a set below t are its members below t
  pub below_members : (n t : ℕ) → t ≤ n → below (members legal n) t ≡ length (members legal t)
  unfolding members below
  below_members zero t h = let e : t ≡ 0 = omega arith in rw e
  below_members (suc n) t h =
      ⊎_elim
      (λ (e : t ≡ suc n). ap (below (members legal (suc n))) e ∙ below_past (suc n) (suc n) (omega arith) ∙ ap (λ m. length (members legal m)) (sym e))
      (λ (l : t < suc n).
      below_append (members legal n) (alone (legal n) n) t
      ∙ ap₂ (λ (a b : ℕ). a + b) (below_members n t (le_of_suc-le-suc l)) (below_alone (legal n) n t (le_of_suc-le-suc l))
      ∙ add-zero (length (members legal t)))
      (eq-or-lt_of_le h)
