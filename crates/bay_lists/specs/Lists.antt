-- Constraints: a list of strands for each bay, and what a list allows. Assumes nothing.
use Rattle.std.specs.Prelude.{ℕ, ◌+◌, Bool, true, false, ◌&&◌, ◌||◌, List, [], ◌∷◌, eqb, length, get_or}
use Rattle.text_entries.specs.Entries.{entry_of, offsets_fit}
use Rattle.bay_lists.specs.declared.Constraints as declared
use Rattle.bay_lists.specs.declared.Constraints.TheVariants.{Absent, Lists}

-- constraints are absent, or a list for each bay
pub data Constraints : Type 0 where
  absent : Constraints
  lists : (offsets tiles : List ℕ) → Constraints

-- the same of the slices that are lent
abbrev pub constraints_of : declared.Constraints → Constraints
constraints_of Absent = absent
constraints_of (Lists offsets tiles) = lists offsets.now tiles.now

-- a list names a strand
unfoldable pub names : List ℕ → ℕ → Bool
names [] strand = false
names (tile ∷ tiles) strand = eqb strand tile || names tiles strand

-- an empty list restricts nothing; another keeps what it names
abbrev pub list_allows : List ℕ → ℕ → Bool
list_allows [] strand = true
list_allows (tile ∷ tiles) strand = names (tile ∷ tiles) strand

-- the list of a bay
abbrev pub list_of : Constraints → (bay : ℕ) → List ℕ
list_of absent bay = []
list_of (lists offsets tiles) bay = entry_of tiles offsets bay

-- one offset more than bays, the first 0, none below the one before it, the last equal to the tile count; absent constraints have no shape
abbrev pub offsets_shaped : (bay_count : ℕ) → Constraints → Bool
offsets_shaped bay_count absent = true
offsets_shaped bay_count (lists offsets tiles) =
    eqb (length offsets) (bay_count + 1)
    && (eqb (get_or offsets 0 0) 0 && (offsets_fit (length tiles) offsets && eqb (get_or offsets bay_count 0) (length tiles)))
