-- How a look at numbered things goes on by one, and what it tells at its end. Assumes nothing.
use Prim.Native.Nat.{ℕ, zero, suc, ◌+◌, ◌-◌, ◌≤◌, ◌<◌}
use mathlib.Core.Path.{◌≡◌, refl, sym, ◌∙◌, subst}
use mathlib.Core.Bool.{Bool, true, false, cond, true≢false}
use mathlib.Core.Logic.{⊎_elim}
use native.Mathlib.Nat.{le_antisymm, eq-or-lt_of_le, lt_of_not-le, le_of_suc-le-suc, not-suc-le-zero, zero-add, add-zero, add-suc, suc-add}
use native.Mathlib.Numerals.{add-one}
use native.Mathlib.Omega.{arith}
use Rattle.units.specs.declared.refusal.Refusal.{Refusal}
use borrow.Author.Tests.{lt-ltb, le-ltb}
use Rattle.std.specs.Prelude.{Ok, Err, Some, None}
use Rattle.units.specs.Refusals.{Verdict, passes}
use Rattle.units.proofs.Verdicts.{first_passes, rest_passes}
use Rattle.text_entries.specs.InOrder.{first_from, found, each_from}

-- one thing less is left after thing j
pub one_less : (j count : ℕ) → j < count → count - j ≡ suc (count - (j + 1))
one_less j count h = omega arith

pub none_left : (j count : ℕ) → count ≤ j → count - j ≡ 0
none_left j count h = omega arith

module _ (test : ℕ → Bool) (j count : ℕ) where
  pub here : j < count → test j ≡ true → first_from test j (count - j) ≡ j
  unfolding first_from
  here h e = rw (one_less j count h, e)

  pub later : j < count → test j ≡ false → first_from test j (count - j) ≡ first_from test (j + 1) (count - (j + 1))
  unfolding first_from
  later h e = rw (one_less j count h, e, add-one j)

  pub nowhere : count ≤ j → first_from test j (count - j) ≡ j
  unfolding first_from
  nowhere h = rw (none_left j count h)

-- the first of the k things from thing j on that passes the test, or the one after them, in words
pub record First (test : ℕ → Bool) (j k r : ℕ) : Type 0 where
  pub from : j ≤ r
  pub to : r ≤ j + k
  pub there : r < j + k → test r ≡ true
  pub none_before : (i : ℕ) → j ≤ i → i < r → test i ≡ false

module _ (test : ℕ → Bool) where
  pub first : (j k : ℕ) → First test j k (first_from test j k)
  unfolding first_from
  first j zero = record { from = omega arith; to = omega arith; there = λ h. absurd (omega arith); none_before = λ i h l. absurd (omega arith) }
  first j (suc k) = go (test j) refl (first_from test (suc j) k) (first (suc j) k)
    where
      go : (t : Bool) → test j ≡ t → (r : ℕ) → First test (suc j) k r → First test j (suc k) (cond t j r)
      go true e r f = record { from = omega arith; to = omega arith; there = λ h. e; none_before = λ i h l. absurd (omega arith) }
      go false e r f =
          record {
            from = omega (arith, f.from);
            to = omega (arith, f.to);
            there = λ h. f.there (omega arith);
            none_before = λ i h l. ⊎_elim (λ p. subst (λ q. test q ≡ false) p e) (λ p. f.none_before i p l) (eq-or-lt_of_le h);
          }

  pub first_within : (count : ℕ) → first_from test 0 count ≤ count
  first_within count = omega (arith, (first 0 count).to)

  not_before : {j k r s : ℕ} → First test j k r → First test j k s → s ≤ r
  not_before f g = le_of_suc-le-suc (lt_of_not-le λ l. true≢false (sym (f.there (omega (arith, g.to))) ∙ g.none_before _ f.from l))

  -- and nothing else is the first
  pub first_only : {r : ℕ} (count : ℕ) → First test 0 count r → first_from test 0 count ≡ r
  first_only count f = le_antisymm (not_before f (first 0 count)) (not_before (first 0 count) f)

-- a place below the count is found, and one that is not is none
pub found_at : {j count place : ℕ} → place ≡ j → j < count → Some j ≡ found count place
found_at {j} {count} e h = rw (e, lt-ltb j count h)

pub found_nowhere : {count place : ℕ} → count ≤ place → None ≡ found count place
found_nowhere {count} {place} h = rw (le-ltb place count h)

-- a test that says the same of each finds the same
pub first_same : (test other : ℕ → Bool) (j k : ℕ) → ((i : ℕ) → j ≤ i → i < j + k → test i ≡ other i) → first_from test j k ≡ first_from other j k
unfolding first_from
first_same test other j zero same = refl
first_same test other j (suc k) same = rw (same j (omega arith) (omega arith), first_same test other (suc j) k λ i h l. same i (omega arith) (omega arith))

module _ (verdict : ℕ → Verdict) (j count : ℕ) where
  -- thing j passed: the rest decides; it was refused: it decides; none is left
  pub each_more : {u : Unit} → j < count → Ok u ≡ verdict j → each_from verdict j (count - j) ≡ each_from verdict (j + 1) (count - (j + 1))
  unfolding each_from
  each_more h e = rw (one_less j count h, ← e, add-one j)

  pub each_refused : {r : Refusal} → j < count → Err r ≡ verdict j → Err r ≡ each_from verdict j (count - j)
  unfolding each_from
  each_refused h e = rw (one_less j count h, ← e)

  pub each_done : count ≤ j → each_from verdict j (count - j) ≡ passes
  unfolding each_from
  each_done h = rw (none_left j count h)

module _ (verdict : ℕ → Verdict) where
  from_on : (j k i : ℕ) → each_from verdict j k ≡ passes → i < k → verdict (i + j) ≡ passes
  unfolding each_from
  from_on j zero i e h = absurd (not-suc-le-zero h)
  from_on j (suc k) zero e h = rw (zero-add j) (first_passes (verdict j) (each_from verdict (suc j) k) e)
  from_on j (suc k) (suc i) e h =
      rw (suc-add i j, ← add-suc i j) (from_on (suc j) k i (rest_passes (verdict j) (each_from verdict (suc j) k) e) (le_of_suc-le-suc h))

  -- where all pass, each does
  pub each_passes : (count i : ℕ) → each_from verdict 0 count ≡ passes → i < count → verdict i ≡ passes
  each_passes count i e h = rw (add-zero i) at (from_on 0 count i e h)
