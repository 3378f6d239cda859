-- The matrices cell by cell: what a key does to a cell, and what all of them leave there. Assumes nothing.
use Prim.Native.Nat.{ℕ, zero, suc, ◌+◌, ◌*◌, ◌/◌, ◌%◌, ◌<◌}
use mathlib.Core.Path.{◌≡◌, refl, sym, ap, ap₂, ◌∙◌}
use mathlib.Core.Bool.{Bool, true, false, cond, ◌&&◌, ◌||◌, and_comm, or_comm}
use mathlib.Core.List.{List}
use native.Mathlib.Nat.{not-suc-le-zero}
use native.Mathlib.Omega.{arith}
use lib.Arith.{digits_div, digits_mod}
use lib.Dec.{eqb}
use lib.Ieee.{Float, nan}
use lib.ListN.{length, get_or, set, get_or-replicate, length-set}
use lib.Seq.{get_or-set_same, get_or-set_other}
use borrow.Author.Tests.{eqb-true, eqb-false, eq-eqb, ne_eqb}
use Rattle.units.specs.declared.BaseEnergy.{BaseEnergy}
use Rattle.units.specs.Decimals.{plus}
use Rattle.name_keys.specs.declared.Joined.{Joined}
use Rattle.name_keys.specs.declared.Joined.TheVariants.{Glues, Nothing}
use Rattle.name_key_values.specs.Values.{Values, key_energy}
use Rattle.name_keys.specs.Names.{KeyNames, key_joined}
use Rattle.name_keys_lent.specs.Lent.{side_of}
use Rattle.name_key_matrices.specs.Matrices.{set_joined, InSide, matrix_to}
use Rattle.name_key_cells.specs.Cells.{cell, joins, last_of}
use Rattle.name_key_matrices.proofs.MatrixLaws.{cell_within, matrix_length}
use Rattle.name_key_matrices.proofs.InSide.{key_in_side}

-- two cells are one exactly where their rows and columns are
place_test : (side p q i j : ℕ) → q < side → j < side → eqb (p * side + q) (i * side + j) ≡ (eqb p i && eqb q j)
place_test side p q i j hq hj = rows (eqb p i) refl
  where
    columns : (t : Bool) → p ≡ i → eqb q j ≡ t → eqb (p * side + q) (i * side + j) ≡ t
    columns true same e = eq-eqb (p * side + q) (i * side + j) (rw (same, eqb-true q j e))
    columns false same e = ne_eqb _ _ (λ one. eqb-false q j e (sym (digits_mod p hq) ∙ ap (λ x. x % side) one ∙ digits_mod i hj))

    rows : (t : Bool) → eqb p i ≡ t → eqb (p * side + q) (i * side + j) ≡ (t && eqb q j)
    rows true e = columns (eqb q j) (eqb-true p i e) refl
    rows false e = ne_eqb _ _ (λ one. eqb-false p i e (sym (digits_div p hq) ∙ ap (λ x. x / side) one ∙ digits_div i hj))

-- what a store leaves at a place
after_set : (xs : List Float) (a b : ℕ) (x : Float) → a < length xs → get_or (set xs a x) b nan ≡ cond (eqb a b) x (get_or xs b nan)
after_set xs a b x h = either (eqb a b) refl
  where
    either : (t : Bool) → eqb a b ≡ t → get_or (set xs a x) b nan ≡ cond t x (get_or xs b nan)
    either true e = ap (λ c. get_or (set xs a x) c nan) (sym (eqb-true a b e)) ∙ get_or-set_same xs a x nan h
    either false e = get_or-set_other xs a b x nan (λ same. eqb-false a b e (sym same))

-- the second store, or else the first, or else what was there
either_store : (s t : Bool) (x y : Float) → cond t x (cond s x y) ≡ cond (s || t) x y
either_store true true x y = refl
either_store true false x y = refl
either_store false true x y = refl
either_store false false x y = refl

module _ (side : ℕ) (matrix : List Float) (square : length matrix ≡ side * side) (i j : ℕ) (hi : i < side) (hj : j < side) where
  -- what a key leaves in a cell
  cell_joined : (joined : Joined) (x : Float) → InSide side joined → cell side (set_joined side joined x matrix) i j ≡ cond (joins joined i j) x (cell side matrix i j)
  cell_joined (Glues p q) x h =
      let first : p * side + q < length matrix = rw square (cell_within side p q h.0 h.1) in
      let second : q * side + p < length (set matrix (p * side + q) x) = rw (length-set matrix (p * side + q) x, square) (cell_within side q p h.1 h.0) in
      after_set (set matrix (p * side + q) x) (q * side + p) (i * side + j) x second
      ∙ ap (cond (eqb (q * side + p) (i * side + j)) x) (after_set matrix (p * side + q) (i * side + j) x first)
      ∙ either_store (eqb (p * side + q) (i * side + j)) (eqb (q * side + p) (i * side + j)) x (cell side matrix i j)
      ∙ rw (place_test side p q i j h.1 hj, place_test side q p i j h.0 hj) refl
  cell_joined Nothing x h = refl

joins_both : (joined : Joined) (i j : ℕ) → joins joined i j ≡ joins joined j i
joins_both (Glues p q) i j =
    or_comm (eqb p i && eqb q j) (eqb q i && eqb p j)
    ∙ ap₂ ◌||◌ (and_comm (eqb q i) (eqb p j)) (and_comm (eqb p i) (eqb q j))
joins_both Nothing i j = refl

module _ (energy_part : BaseEnergy → Float) (n : KeyNames) (v : Values) where
  -- cell by cell the matrices are what the last key that joins the two glues gives
  pub cell_by_cell : (i j k : ℕ) → i < side_of n.count → j < side_of n.count → cell (side_of n.count) (matrix_to energy_part n v k) i j ≡ last_of energy_part n v i j k
  unfolding matrix_to last_of
  cell_by_cell i j zero hi hj = get_or-replicate _ (i * side_of n.count + j) (plus 0 1) nan (cell_within (side_of n.count) i j hi hj)
  cell_by_cell i j (suc k) hi hj =
      cell_joined (side_of n.count) (matrix_to energy_part n v k) (matrix_length energy_part n v k refl) i j hi hj (key_joined n k) (energy_part (key_energy v k)) (key_in_side n k)
      ∙ ap (cond (joins (key_joined n k) i j) (energy_part (key_energy v k))) (cell_by_cell i j k hi hj)

  pub last_both : (i j k : ℕ) → last_of energy_part n v i j k ≡ last_of energy_part n v j i k
  unfolding last_of
  last_both i j zero = refl
  last_both i j (suc k) =
      ap (λ t. cond t (energy_part (key_energy v k)) (last_of energy_part n v i j k)) (joins_both (key_joined n k) i j)
      ∙ ap (cond (joins (key_joined n k) j i) (energy_part (key_energy v k))) (last_both i j k)

  pub last_none : (i j keys : ℕ) → ((k : ℕ) → k < keys → joins (key_joined n k) i j ≡ false) → last_of energy_part n v i j keys ≡ plus 0 1
  unfolding last_of
  last_none i j zero never = refl
  last_none i j (suc keys) never = rw (never keys (omega arith)) (last_none i j keys (λ k h. never k (omega arith)))

  pub last_one : (i j k keys : ℕ) → k < keys → joins (key_joined n k) i j ≡ true → ((l : ℕ) → k < l → l < keys → joins (key_joined n l) i j ≡ false)
      → last_of energy_part n v i j keys ≡ energy_part (key_energy v k)
  unfolding last_of
  last_one i j k zero h joined later = absurd (not-suc-le-zero h)
  last_one i j k (suc keys) h joined later = either (eqb k keys) refl (last_one i j k keys)
    where
      either : (t : Bool) → eqb k keys ≡ t
          → (k < keys → joins (key_joined n k) i j ≡ true → ((l : ℕ) → k < l → l < keys → joins (key_joined n l) i j ≡ false) → last_of energy_part n v i j keys ≡ energy_part (key_energy v k))
          → cond (joins (key_joined n keys) i j) (energy_part (key_energy v keys)) (last_of energy_part n v i j keys) ≡ energy_part (key_energy v k)
      either true e before = rw (← eqb-true k keys e, joined) refl
      either false e before =
          let other = eqb-false k keys e in
          let less : k < keys = omega arith in
          rw (later keys less (omega arith)) (before less joined (λ l a b. later l a (omega arith)))
