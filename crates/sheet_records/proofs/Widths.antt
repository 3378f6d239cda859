-- Laws of counting the first record's fields: the turns of the loop. Assumes nothing.
use Prim.Native.Nat.{ℕ, zero, suc, ◌+◌, ◌-◌, ◌≤◌, ◌<◌}
use mathlib.Core.Bool.{Bool, true, false, cond}
use mathlib.Core.List.{List}
use mathlib.Core.Path.{◌≡◌, refl, sym, ap, ◌∙◌}
use native.Mathlib.Omega.{arith}
use borrow.Author.Tests.{eq-eqb, ne_eqb}
use lib.Dec.{eqb}
use lib.ListN.{length, drop}
use Rattle.units.specs.Limits.{most_side}
use Rattle.sheet_fields.specs.Fields.{field, after, field_at}
use Rattle.sheet_fields.specs.Answers.{places}
use Rattle.sheet_fields.specs.declared.Field.{Field}
use Rattle.sheet_fields.proofs.Bounds.{after_at}
use Rattle.sheet_records.specs.Tables.{width_up_to, first_width}

-- so many fields stand before `next`, and each was followed by another one
pub record Counting (text : List ℕ) (next width : ℕ) : Type 0 where
  pub few : width ≤ most_side + 1
  pub sum : first_width text ≡ width + width_up_to (most_side + 1 - width) (drop next text)

pub no_record : (text : List ℕ) → length text ≡ 0 → 0 ≡ first_width text
unfolding first_width
no_record text e = rw (eq-eqb (length text) 0 e)

pub counting_starts : (text : List ℕ) → (length text ≡ 0 → ⊥) → Counting text 0 0
unfolding first_width
counting_starts text some = record { few = omega arith; sum = rw (ne_eqb (length text) 0 some) (omega arith) }

module _ (text : List ℕ) (next width : ℕ) (s : Counting text next width) where
  pub counting_ends : most_side < width → most_side + 1 ≡ first_width text
  unfolding width_up_to
  counting_ends k =
      let few = s.few in
      let none : most_side + 1 - width ≡ 0 = omega arith in sym (s.sum ∙ rw none (omega arith))

  module _ (more : width ≤ most_side) (f : Field) (e : f ≡ places (field_at text next)) where
    abbrev here : List ℕ
    here = drop next text

    step : first_width text ≡ width + cond f.more (suc (width_up_to (most_side + 1 - (width + 1)) (after here))) 1
    unfolding width_up_to
    step = let one_more : most_side + 1 - width ≡ suc (most_side + 1 - (width + 1)) = omega arith in s.sum ∙ rw (one_more, ap (λ (g : Field). g.more) e)

    pub counting_stops : f.more ≡ false → width + 1 ≡ first_width text
    counting_stops k = sym (step ∙ rw k refl)

    pub counting_goes_on : f.more ≡ true → Counting text f.next (width + 1)
    counting_goes_on k =
        let rest : drop f.next text ≡ after here = rw (ap (λ (g : Field). g.next) e) (sym (after_at text next)) in
        record { few = omega arith; sum = step ∙ rw (k, rest) (omega arith) }

-- it is counted no further
up_to : (left : ℕ) (t : List ℕ) → width_up_to left t ≤ left
unfolding width_up_to
up_to zero t = omega arith
up_to (suc left) t = go (field t).more (up_to left (after t))
  where
    go : (m : Bool) → width_up_to left (after t) ≤ left → cond m (suc (width_up_to left (after t))) 1 ≤ suc left
    go true h = omega arith
    go false h = omega arith

pub first_width_few : (t : List ℕ) → first_width t ≤ most_side + 1
unfolding first_width
first_width_few t = go (eqb (length t) 0)
  where
    go : (none : Bool) → cond none 0 (width_up_to (most_side + 1) t) ≤ most_side + 1
    go true = omega arith
    go false = up_to (most_side + 1) t
