-- Laws of a part of a table: what a reader of its front leaves of the whole, and what stands from a place on. Assumes nothing.
use Prim.Native.Nat.{ℕ, ◌+◌, ◌-◌, ◌≤◌, min}
use mathlib.Core.Bool.{Bool, true, false}
use mathlib.Core.List.{List, ◌++◌}
use mathlib.Core.Path.{◌≡◌, refl, sym, ap, ◌∙◌}
use native.Mathlib.Omega.{arith}
use borrow.Author.Tests.{leb-true, leb-false}
use lib.Dec.{leb}
use lib.ListN.{length, take, drop, length-drop, drop_of_length-le}
use lib.Seq.{drop-drop, take-length}
use Rattle.std.proofs.Common.{Option}
use Rattle.case_fields.specs.Values.{field_count, field_front}
use Rattle.case_parts.specs.Parts.{part_end, part_start, between, count_between, front_between}

module _ {A : Type 0} (ok : List ℕ → Bool) (value : List ℕ → A) (cut : List ℕ → List (List ℕ)) (key line : List ℕ) (from to : ℕ) (old : List A) where
  after_part : {end start : ℕ} → end ≡ part_end to old → start ≡ part_start from to old → drop (end - start) (drop start old) ≡ drop (part_end to old) old
  after_part {end} {start} e s =
      let whole : start + (end - start) ≡ end = omega arith in
      drop-drop (end - start) start old ∙ ap (λ (n : ℕ). drop n old) (whole ∙ e)

  -- what the reader of the part answers and leaves, put back into the table
  pub as_between : {end start : ℕ} {count : Option ℕ} {new : List A} → end ≡ min to (length old) → start ≡ min from end
      → let part = take (end - start) (drop start old) in
      (count ≡ field_count ok cut key line (length part)) × (new ≡ field_front ok value cut key line part)
      → (count ≡ count_between ok cut key line from to old) × (take start old ++ (new ++ drop (end - start) (drop start old)) ≡ front_between ok value cut key line from to old)
  as_between {end} {start} {count} {new} e s read =
      let first : start ≡ part_start from to old = s ∙ ap (min from) e in
      let same : take (end - start) (drop start old) ≡ between from to old = rw (first, e) in
      let counts : count ≡ field_count ok cut key line (length (between from to old)) = read.0 ∙ ap (λ (part : List A). field_count ok cut key line (length part)) same in
      let fills : new ≡ field_front ok value cut key line (between from to old) = read.1 ∙ ap (field_front ok value cut key line) same in
      (counts, rw (after_part e first, fills, first))

-- what stands from a place on, and nothing where the place lies past the end
pub as_from : {A : Type 0} (table : List A) (from count : ℕ) {at : ℕ} → at ≡ min from (length table)
    → take count (take (length table - at) (drop at table)) ≡ take count (drop from table)
as_from table from count {at} e = rw (← length-drop at table, take-length) (ap (take count) (go (leb from (length table)) refl))
  where
    go : (t : Bool) → leb from (length table) ≡ t → drop at table ≡ drop from table
    go true h = let k = leb-true from (length table) h in let same : at ≡ from = omega arith in rw same
    go false h =
        let k = leb-false from (length table) h in
        let last : length table ≤ at = omega arith in
        let past : length table ≤ from = omega arith in
        drop_of_length-le table last ∙ sym (drop_of_length-le table past)
