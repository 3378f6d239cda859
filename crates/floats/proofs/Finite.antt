-- The tests `lt` and `le` on two finite floats, as an order of fractions with a sign. Each is one comparison of naturals, with no case for the signs.
-- The values need not fit a format. Assumes nothing.
use mathlib.Core.Path.{◌≡◌, refl, sym, ◌∙◌, ap}
use mathlib.Core.Logic.{⊎_elim}
use mathlib.Core.Bool.{Bool, true, false, not, ◌&&◌, ◌||◌, or-true as true-on-right}
use Prim.Native.Nat.{ℕ, zero, suc, ◌+◌, ◌*◌, ◌≤◌}
use native.Mathlib.Nat.{add-zero, zero-add, add_comm, eq-or-lt_of_le}
use native.Mathlib.Omega.{arith}
use lib.IntN.{ℤ}
use lib.Dec.{ltb, leb, eqb, leb-zero, leb-suc-zero}
use lib.Ieee.{fin, up, down, below, level, lt, le}
use borrow.Author.Tests.{ltb-true, leb-true, leb-false, eqb-true, lt-ltb, le-ltb, le-leb, eq-eqb}
use Rattle.floats.specs.Fractions.{plus, less}
use Rattle.floats.proofs.Tests.{same_test, or_true, or_left, and_left, and_right}
use Rattle.floats.proofs.Signed.{AtMost}

-- ---- whole numbers with a sign
below_is : (s : Bool) (a : ℕ) (t : Bool) (b : ℕ) → below s a t b ≡ ltb (plus s a + less t b) (plus t b + less s a)
below_is false a false b = simp add-zero
below_is false a true b = sym (leb-suc-zero (a + b))
below_is true a false b = simp add_comm
below_is true a true b = simp zero-add

-- `same` says whether a is b
leb_by_parts : (a b : ℕ) (same : Bool) → (same ≡ true → a ≡ b) → (a ≡ b → same ≡ true) → (ltb a b || (same && true)) ≡ leb a b
leb_by_parts a b same sound complete = same_test (ltb a b || (same && true)) (leb a b) there back
  where
    there : (ltb a b || (same && true)) ≡ true → leb a b ≡ true
    there h = le-leb a b (⊎_elim (λ k. omega (arith, ltb-true a b k)) (λ k. omega (arith, sound (and_left same true k))) (or_true (ltb a b) (same && true) h))

    back : leb a b ≡ true → (ltb a b || (same && true)) ≡ true
    back h = ⊎_elim (λ k. rw (complete k) (true-on-right (ltb a b))) (λ k. rw (lt-ltb a b k)) (eq-or-lt_of_le (leb-true a b h))

at_most_is : (s : Bool) (a : ℕ) (t : Bool) (b : ℕ) → (below s a t b || level s a t b) ≡ leb (plus s a + less t b) (plus t b + less s a)
at_most_is false a false b = simp add-zero (leb_by_parts a b (eqb a b) (eqb-true a b) (eq-eqb a b))
at_most_is false a true b = same_test (eqb a b && eqb a 0) (leb (a + b) 0) there back
  where
    there : (eqb a b && eqb a 0) ≡ true → leb (a + b) 0 ≡ true
    there h = le-leb (a + b) 0 (omega (arith, eqb-true a b (and_left (eqb a b) (eqb a 0) h), eqb-true a 0 (and_right (eqb a b) (eqb a 0) h)))

    back : leb (a + b) 0 ≡ true → (eqb a b && eqb a 0) ≡ true
    back h =
        let none : a + b ≤ 0 = leb-true (a + b) 0 h in
        rw (eq-eqb a b (omega arith), eq-eqb a 0 (omega arith))
at_most_is true a false b = go (a + b) refl ∙ sym (leb-zero (b + a))
  where
    go : (n : ℕ) → a + b ≡ n → (ltb 0 n || (eqb a b && eqb a 0)) ≡ true
    go zero e = rw (eq-eqb a b (omega arith), eq-eqb a 0 (omega arith))
    go (suc n) e = or_left (ltb 0 (suc n)) (eqb a b && eqb a 0) (lt-ltb 0 (suc n) (omega arith))
at_most_is true a true b = simp zero-add (leb_by_parts b a (eqb a b) (λ h. sym (eqb-true a b h)) (λ h. eq-eqb a b (sym h)))

ltb_is : (x y : ℕ) → ltb x y ≡ not (leb y x)
ltb_is x y = go (leb y x) refl
  where
    go : (b : Bool) → leb y x ≡ b → ltb x y ≡ not b
    go true h = le-ltb x y (leb-true y x h)
    go false h = lt-ltb x y (leb-false y x h)

-- ---- finite floats
module _ (s : Bool) (m : ℕ) (e : ℤ) (t : Bool) (n : ℕ) (d : ℤ) where
  pub finite_le : AtMost s (m * up e * down d) t (n * up d * down e) → le (fin s m e) (fin t n d) ≡ true
  unfolding le
  finite_le h = at_most_is s (m * up e * down d) t (n * up d * down e) ∙ le-leb _ _ h

  pub finite_at_most : le (fin s m e) (fin t n d) ≡ true → AtMost s (m * up e * down d) t (n * up d * down e)
  unfolding le
  finite_at_most h = leb-true _ _ (sym (at_most_is s (m * up e * down d) t (n * up d * down e)) ∙ h)

  pub finite_lt : lt (fin s m e) (fin t n d) ≡ not (le (fin t n d) (fin s m e))
  unfolding le
  finite_lt =
      let a = m * up e * down d in
      let b = n * up d * down e in
      below_is s a t b ∙ ltb_is (plus s a + less t b) (plus t b + less s a) ∙ ap not (sym (at_most_is t b s a))
