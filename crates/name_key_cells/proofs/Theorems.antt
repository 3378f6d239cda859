-- What the definitions of the matrices come to, for a reader who asks about a cell, a key or a name. Assumes nothing.
use Prim.Native.Nat.{ℕ, suc, ◌+◌, ◌*◌, ◌<◌}
use mathlib.Core.Path.{◌≡◌, refl, sym, ap, ◌∙◌}
use mathlib.Core.Bool.{Bool, true, false, cond, ◌&&◌}
use mathlib.Core.List.{List}
use native.Mathlib.Omega.{arith}
use lib.Dec.{eqb}
use lib.Ieee.{Float}
use borrow.Author.Tests.{ne_eqb}
use Rattle.units.specs.declared.BaseEnergy.{BaseEnergy}
use Rattle.units.specs.Decimals.{plus}
use Rattle.text_entries.specs.Entries.{entry_of}
use Rattle.name_stars.specs.Stars.{base_of, is_from}
use Rattle.name_base_list.specs.Bases.{base_number, glue_of}
use Rattle.name_keys.specs.declared.RefOrPair.{RefOrPair}
use Rattle.name_keys.specs.declared.RefOrPair.TheVariants.{Ref, Pair}
use Rattle.name_keys.specs.declared.Joined.TheVariants.{Glues, Nothing}
use Rattle.name_key_values.specs.Values.{Values, key_energy}
use Rattle.name_keys.specs.Names.{KeyNames, names_at, is_registered, joined_by_one, joined_by, key_joined}
use Rattle.name_keys_lent.specs.Lent.{side_of}
use Rattle.name_key_matrices.specs.Matrices.{set_joined, matrix_to}
use Rattle.name_key_cells.specs.Cells.{cell, joins, registered_in, key_registered}
use Rattle.name_key_cells.proofs.CellLaws.{cell_by_cell, last_both, last_none, last_one}

-- A key of one name joins the same two glues however many stars it has.
pub however_many_stars : (text bases : List ℕ) (count : ℕ) (a b : List ℕ) → base_of a ≡ base_of b → joined_by_one text bases count a ≡ joined_by_one text bases count b
however_many_stars text bases count a b same = rw same

-- what a key with a name that is not registered joins
joins_nothing : (n : KeyNames) (names : RefOrPair) → registered_in n names ≡ false → joined_by n.text n.offsets n.bases n.count names ≡ Nothing
joins_nothing n (Ref name) e = rw e
joins_nothing n (Pair first second) e = rw e

-- glue 0 is joined by no key: each glue of a base is above it
above_0 : (m : ℕ) → eqb (m + 1) 0 ≡ false
above_0 m = ne_eqb (m + 1) 0 (omega arith)

glue_above_0 : (j : ℕ) (name : List ℕ) → eqb (glue_of j name) 0 ≡ false
glue_above_0 j name = either (is_from name)
  where
    either : (t : Bool) → eqb (cond t (j * 2 + 1) (j * 2 + 1 + 1)) 0 ≡ false
    either true = above_0 (j * 2)
    either false = above_0 (j * 2 + 1)

apart_from_0 : (p q j : ℕ) → eqb p 0 ≡ false → eqb q 0 ≡ false → (t : Bool) → joins (cond t (Glues p q) Nothing) 0 j ≡ false
apart_from_0 p q j hp hq true = rw (hp, hq)
apart_from_0 p q j hp hq false = refl

joined_apart : (text offsets bases : List ℕ) (count : ℕ) (names : RefOrPair) (j : ℕ) → joins (joined_by text offsets bases count names) 0 j ≡ false
joined_apart text offsets bases count (Ref name) j =
    let base = base_number text bases count (entry_of text offsets name) in
    apart_from_0 (base * 2 + 1) (base * 2 + 2) j (above_0 (base * 2)) (ne_eqb (base * 2 + 2) 0 (omega arith)) (is_registered text bases count (entry_of text offsets name))
joined_apart text offsets bases count (Pair first second) j =
    apart_from_0 _ _ j (glue_above_0 (base_number text bases count (entry_of text offsets first)) (entry_of text offsets first))
    (glue_above_0 (base_number text bases count (entry_of text offsets second)) (entry_of text offsets second))
    (is_registered text bases count (entry_of text offsets first) && is_registered text bases count (entry_of text offsets second))

-- Of either matrix, after any number of keys:
module _ (energy_part : BaseEnergy → Float) (n : KeyNames) (v : Values) where
  -- it is symmetric,
  pub symmetric : (i j keys : ℕ) → i < side_of n.count → j < side_of n.count
      → cell (side_of n.count) (matrix_to energy_part n v keys) i j ≡ cell (side_of n.count) (matrix_to energy_part n v keys) j i
  symmetric i j keys hi hj = cell_by_cell energy_part n v i j keys hi hj ∙ last_both energy_part n v i j keys ∙ sym (cell_by_cell energy_part n v j i keys hj hi)

  -- a cell has the energy of the last key that joins its two glues,
  pub later_wins : (i j k keys : ℕ) → i < side_of n.count → j < side_of n.count
      → k < keys → joins (key_joined n k) i j ≡ true → ((l : ℕ) → k < l → l < keys → joins (key_joined n l) i j ≡ false)
      → cell (side_of n.count) (matrix_to energy_part n v keys) i j ≡ energy_part (key_energy v k)
  later_wins i j k keys hi hj h joined later = cell_by_cell energy_part n v i j keys hi hj ∙ last_one energy_part n v i j k keys h joined later

  -- a cell whose glues no key joins is 0.0,
  pub untouched_is_zero : (i j keys : ℕ) → i < side_of n.count → j < side_of n.count
      → ((k : ℕ) → k < keys → joins (key_joined n k) i j ≡ false) → cell (side_of n.count) (matrix_to energy_part n v keys) i j ≡ plus 0 1
  untouched_is_zero i j keys hi hj never = cell_by_cell energy_part n v i j keys hi hj ∙ last_none energy_part n v i j keys never

  -- so are those of glue 0,
  pub glue_0_is_zero : (j keys : ℕ) → j < side_of n.count → cell (side_of n.count) (matrix_to energy_part n v keys) 0 j ≡ plus 0 1
  glue_0_is_zero j keys hj =
      untouched_is_zero 0 j keys (omega arith) hj (λ k h. joined_apart n.text n.offsets n.bases n.count (names_at n.paired k) j)

  -- and a key with a name that is not registered changes nothing.
  pub unregistered_changes_nothing : (k : ℕ) → key_registered n k ≡ false → matrix_to energy_part n v (suc k) ≡ matrix_to energy_part n v k
  unfolding matrix_to
  unregistered_changes_nothing k e =
      ap (λ joined. set_joined (side_of n.count) joined (energy_part (key_energy v k)) (matrix_to energy_part n v k)) (joins_nothing n (names_at n.paired k) e)
