-- The matrices cell by cell, for a reader: the last key that joins two glues decides. Assumes nothing.
use Rattle.std.specs.Prelude.{ℕ, zero, suc, ◌+◌, ◌*◌, Bool, false, cond, ◌&&◌, ◌||◌, List, eqb, Float, get_or}
use Rattle.std.specs.Float.{nan}
use Rattle.units.specs.declared.BaseEnergy.{BaseEnergy}
use Rattle.units.specs.Decimals.{plus}
use Rattle.text_entries.specs.Entries.{entry_of}
use Rattle.name_keys.specs.declared.RefOrPair.{RefOrPair}
use Rattle.name_keys.specs.declared.RefOrPair.TheVariants.{Ref, Pair}
use Rattle.name_keys.specs.declared.Joined.{Joined}
use Rattle.name_keys.specs.declared.Joined.TheVariants.{Glues, Nothing}
use Rattle.name_key_values.specs.Values.{Values, key_energy}
use Rattle.name_keys.specs.Names.{KeyNames, is_registered, names_at, key_joined}

-- cell (i, j)
abbrev pub cell : (side : ℕ) → List Float → (i j : ℕ) → Float
cell side matrix i j = get_or matrix (i * side + j) nan

-- the two glues are joined, in either order
abbrev pub joins : Joined → (i j : ℕ) → Bool
joins (Glues p q) i j = (eqb p i && eqb q j) || (eqb q i && eqb p j)
joins Nothing i j = false

-- of the first k keys the last that joins i and j gives its energy; 0.0 where none does
unfoldable pub last_of : (energy_part : BaseEnergy → Float) → KeyNames → Values → (i j k : ℕ) → Float
last_of energy_part n v i j zero = plus 0 1
last_of energy_part n v i j (suc k) = cond (joins (key_joined n k) i j) (energy_part (key_energy v k)) (last_of energy_part n v i j k)

-- every name of key k that counts is registered
abbrev pub registered_in : KeyNames → RefOrPair → Bool
registered_in n (Ref name) = is_registered n.text n.bases n.count (entry_of n.text n.offsets name)
registered_in n (Pair first second) =
    is_registered n.text n.bases n.count (entry_of n.text n.offsets first)
    && is_registered n.text n.bases n.count (entry_of n.text n.offsets second)

abbrev pub key_registered : KeyNames → ℕ → Bool
key_registered n k = registered_in n (names_at n.paired k)
