-- Laws of the first fault of a record, whatever its fields are tested for: what a field adds to it, and the turns of a loop over its fields. Assumes nothing.
use Prim.Native.Nat.{ℕ, suc, ◌+◌, ◌-◌, ◌<◌, ◌≤◌}
use mathlib.Core.Bool.{Bool, true, false, cond}
use mathlib.Core.List.{List}
use mathlib.Core.Path.{◌≡◌, refl, sym, ◌∙◌}
use native.Mathlib.Nat.{sub-zero}
use native.Mathlib.Omega.{arith}
use borrow.Author.Tests.{eq-eqb, ne_eqb}
use lib.Dec.{eqb}
use lib.ListN.{drop}
use Rattle.sheet_fields.specs.Fields.{after, field_at}
use Rattle.sheet_fields.specs.Runs.{bytes_in, goes_on, record_fault, field_fault}
use Rattle.sheet_fields.proofs.Passing.{Passing, passing_starts, passing_ends, passing_goes_on, rest_at}

-- a number from 1 on says that there is a fault
fault_is : (test : List ℕ → Bool) (n left : ℕ) (t : List ℕ) (s g : Bool) → test t ≡ s → goes_on left t ≡ g
    → record_fault test (n + 1) (suc left) t ≡ cond (eqb (cond s (cond g 0 (n + 1 + 1)) (n + 1)) 0) (record_fault test (n + 1 + 1) left (after t)) (cond s (cond g 0 (n + 1 + 1)) (n + 1))
unfolding record_fault
fault_is test n left t true true p q = rw (p, q)
fault_is test n left t true false p q = let z : eqb (n + 1 + 1) 0 ≡ false = ne_eqb (n + 1 + 1) 0 (omega arith) in rw (p, q, z)
fault_is test n left t false g p q = let z : eqb (n + 1) 0 ≡ false = ne_eqb (n + 1) 0 (omega arith) in rw (p, z)

passed_of : (n : ℕ) (s g : Bool) → cond s (cond g 0 (n + 1 + 1)) (n + 1) ≡ 0 → s ≡ true
passed_of n true g e = refl
passed_of n false g e = absurd (omega arith)

-- the fields before `next` are the record's first ones, without a fault
pub record InRecord (test : List ℕ → Bool) (width : ℕ) (text : List ℕ) (at next i : ℕ) : Type 0 where
  pub passed : Passing width text at next i
  pub fault : record_fault test 1 width (drop at text) ≡ record_fault test (i + 1) (width - i) (drop next text)

module _ (test : List ℕ → Bool) (width : ℕ) (text : List ℕ) (at : ℕ) where
  pub record-starts : InRecord test width text at at 0
  record-starts = record { passed = passing_starts width text at; fault = rw (sub-zero width) refl }

  module _ (next i : ℕ) (s : InRecord test width text at next i) where
    pub record-ends : width ≤ i → (record_fault test 1 width (drop at text) ≡ 0) × (at + bytes_in width (drop at text) ≡ next)
    unfolding record_fault
    record-ends k =
        let none : width - i ≡ 0 = omega arith in
        (s.fault ∙ rw none, sym (passing_ends width text at next i s.passed k))

    -- the field at `next`: whether it passes the test, whether its record goes on, where the next one stands, and the fault that it shows
    module _ (more : i < width) (passes goes : Bool) (far : ℕ) (p : passes ≡ test (drop next text)) (g : goes ≡ (field_at text next).more) (e : far ≡ (field_at text next).next) (n : ℕ)
        (k : n ≡ field_fault (i + 1) (width - (i + 1)) passes goes) where
      abbrev left : ℕ
      left = width - (i + 1)

      abbrev here : List ℕ
      here = drop next text

      fault_here : n ≡ cond (test here) (cond (goes_on left here) 0 (i + 1 + 1)) (i + 1)
      unfolding goes_on
      fault_here = k ∙ rw (p, g)

      step : record_fault test 1 width (drop at text) ≡ cond (eqb n 0) (record_fault test (i + 1 + 1) left (after here)) n
      step =
          let one_more : width - i ≡ suc left = omega arith in
          s.fault ∙ rw (one_more, fault_here) (fault_is test i left here (test here) (goes_on left here) refl refl)

      pub record-stops : (n ≡ 0 → ⊥) → record_fault test 1 width (drop at text) ≡ n
      record-stops some = step ∙ rw (ne_eqb n 0 some)

      pub passed_test : n ≡ 0 → test here ≡ true
      passed_test none = passed_of i (test here) (goes_on left here) (sym fault_here ∙ none)

      pub record-goes-on : n ≡ 0 → InRecord test width text at far (i + 1)
      record-goes-on none =
          record {
            passed = passing_goes_on width text at next i s.passed more far e;
            fault = step ∙ rw (eq-eqb n 0 none, rest_at text next far e);
          }
