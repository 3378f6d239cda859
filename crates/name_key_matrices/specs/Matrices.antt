-- The two energy matrices, row by row, as the keys leave them. Assumes nothing.
use Rattle.std.specs.Prelude.{ℕ, zero, suc, ◌+◌, ◌*◌, ◌<◌, List, Float, length, set, replicate}
use Rattle.units.specs.declared.BaseEnergy.{BaseEnergy}
use Rattle.units.specs.Decimals.{plus}
use Rattle.name_keys.specs.declared.Joined.{Joined}
use Rattle.name_keys.specs.declared.Joined.TheVariants.{Glues, Nothing}
use Rattle.name_key_values.specs.Values.{Values, key_energy}
use Rattle.name_keys.specs.Names.{KeyNames, key_joined}
use Rattle.name_keys_lent.specs.Lent.{side_of}

-- cells (i, j) and (j, i) set to a number
abbrev pub set_both : (side i j : ℕ) → Float → List Float → List Float
set_both side i j x matrix = set (set matrix (i * side + j) x) (j * side + i) x

-- what a key does to a matrix; one that joins nothing is skipped
abbrev pub set_joined : (side : ℕ) → Joined → Float → List Float → List Float
set_joined side (Glues i j) x matrix = set_both side i j x matrix
set_joined side Nothing x matrix = matrix

-- both glues have a row
abbrev pub InSide : (side : ℕ) → Joined → Type 0
InSide side (Glues i j) = (i < side) × (j < side)
InSide side Nothing = Unit {0}

-- the matrix of one part of the energies after the first k keys: 0.0 everywhere, then key by key, so that a later one wins
unfoldable pub matrix_to : (energy_part : BaseEnergy → Float) → KeyNames → Values → ℕ → List Float
matrix_to energy_part n v zero = replicate (side_of n.count * side_of n.count) (plus 0 1)
matrix_to energy_part n v (suc k) = set_joined (side_of n.count) (key_joined n k) (energy_part (key_energy v k)) (matrix_to energy_part n v k)

-- ΔG and ΔS after all keys
abbrev pub delta_g : KeyNames → Values → List Float
delta_g n v = matrix_to (λ energy. energy.dg) n v (length v.kinds)

abbrev pub delta_s : KeyNames → Values → List Float
delta_s n v = matrix_to (λ energy. energy.ds) n v (length v.kinds)
