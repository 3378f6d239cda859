-- How the matrices are filled: 0.0 from the front, then key by key. Assumes nothing.
use Prim.Native.Nat.{ℕ, zero, suc, ◌+◌, ◌*◌, ◌<◌}
use mathlib.Core.Path.{◌≡◌, refl, sym, ap, ◌∙◌}
use mathlib.Core.List.{List}
use native.Mathlib.Numerals.{add-one}
use lib.Arith.{digits_lt}
use lib.Ieee.{Float}
use lib.ListN.{length, replicate, length-set, length-replicate}
use Rattle.units.specs.declared.BaseEnergy.{BaseEnergy}
use Rattle.units.specs.Decimals.{plus}
use Rattle.name_keys.specs.declared.Joined.{Joined}
use Rattle.name_keys.specs.declared.Joined.TheVariants.{Glues, Nothing}
use Rattle.name_key_values.specs.Values.{Values, key_energy}
use Rattle.name_keys.specs.Names.{KeyNames, key_joined}
use Rattle.name_keys_lent.specs.Lent.{side_of}
use Rattle.name_key_matrices.specs.Matrices.{set_joined, matrix_to}

-- the two parts of an energy
abbrev pub dg : BaseEnergy → Float
dg energy = energy.dg

abbrev pub ds : BaseEnergy → Float
ds energy = energy.ds

-- a cell lies within its matrix
pub cell_within : (side i j : ℕ) → i < side → j < side → i * side + j < side * side
cell_within side i j h k = digits_lt h k

-- a key leaves a matrix its length
pub length_joined : (side : ℕ) (joined : Joined) (x : Float) (matrix : List Float) → length (set_joined side joined x matrix) ≡ length matrix
length_joined side (Glues i j) x matrix = simp length-set
length_joined side Nothing x matrix = refl

length_matrix : (energy_part : BaseEnergy → Float) (n : KeyNames) (v : Values) (k : ℕ) → length (matrix_to energy_part n v k) ≡ side_of n.count * side_of n.count
unfolding matrix_to
length_matrix energy_part n v zero = length-replicate _ _
length_matrix energy_part n v (suc k) = length_joined _ _ _ (matrix_to energy_part n v k) ∙ length_matrix energy_part n v k

module _ (energy_part : BaseEnergy → Float) (n : KeyNames) (v : Values) where
  -- no key yet
  pub matrix_none : {matrix : List Float} (size : ℕ) → size ≡ side_of n.count * side_of n.count → matrix ≡ replicate size (plus 0 1) → matrix ≡ matrix_to energy_part n v 0
  unfolding matrix_to
  matrix_none size e cleared = cleared ∙ ap (λ cells. replicate cells (plus 0 1)) e

  -- one key more
  pub matrix_more : {matrix next : List Float} {joined : Joined} {energy : BaseEnergy} (k : ℕ)
      → matrix ≡ matrix_to energy_part n v k → joined ≡ key_joined n k → energy ≡ key_energy v k
      → next ≡ set_joined (side_of n.count) joined (energy_part energy) matrix → next ≡ matrix_to energy_part n v (k + 1)
  unfolding matrix_to
  matrix_more k before joins gives after = after ∙ rw (before, joins, gives) (ap (matrix_to energy_part n v) (sym (add-one k)))

  -- and its length is that of the square
  pub matrix_length : {matrix : List Float} (k : ℕ) → matrix ≡ matrix_to energy_part n v k → length matrix ≡ side_of n.count * side_of n.count
  matrix_length k e = ap length e ∙ length_matrix energy_part n v k
