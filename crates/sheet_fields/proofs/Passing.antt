-- Laws of a walk over the first fields from a place on: the turns of its loop. Assumes nothing.
use Prim.Native.Nat.{ℕ, suc, ◌+◌, ◌-◌, ◌≤◌, ◌<◌}
use mathlib.Core.List.{List}
use mathlib.Core.Path.{◌≡◌, refl, sym, ◌∙◌}
use native.Mathlib.Nat.{sub-zero}
use native.Mathlib.Omega.{arith}
use lib.ListN.{drop}
use Rattle.sheet_fields.specs.Fields.{after, field_at}
use Rattle.sheet_fields.specs.Runs.{bytes_in}
use Rattle.sheet_fields.proofs.Bounds.{after_at}

-- the first i fields end at `next`, and the others take what is left of the bytes
pub record Passing (count : ℕ) (text : List ℕ) (at next i : ℕ) : Type 0 where
  pub within : i ≤ count
  pub place : at + bytes_in count (drop at text) ≡ next + bytes_in (count - i) (drop next text)

pub passing_starts : (count : ℕ) (text : List ℕ) (at : ℕ) → Passing count text at at 0
passing_starts count text at = record { within = omega arith; place = rw (sub-zero count) refl }

-- the text after the field at a place
pub rest_at : (text : List ℕ) (at far : ℕ) → far ≡ (field_at text at).next → drop far text ≡ after (drop at text)
rest_at text at far e = rw e (sym (after_at text at))

module _ (count : ℕ) (text : List ℕ) (at next i : ℕ) (s : Passing count text at next i) where
  pub passing_ends : count ≤ i → next ≡ at + bytes_in count (drop at text)
  unfolding bytes_in
  passing_ends k = let none : count - i ≡ 0 = omega arith in sym (s.place ∙ rw none (omega arith))

  pub passing_goes_on : i < count → (far : ℕ) → far ≡ (field_at text next).next → Passing count text at far (i + 1)
  unfolding bytes_in
  passing_goes_on more far e =
      let one_more : count - i ≡ suc (count - (i + 1)) = omega arith in
      record { within = omega arith; place = s.place ∙ rw (one_more, rest_at text next far e, e) (omega arith) }
