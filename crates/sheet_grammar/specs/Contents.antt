-- The lists of the bays from one on, in reading order, and what a sheet says of a bay. Assumes nothing.
use Rattle.std.specs.Prelude.{ℕ, zero, suc, ◌+◌, ◌*◌, List, [], ◌∷◌, get_or}
use Rattle.bay_lists.specs.Lists.{Constraints, list_of, lists}
use Rattle.sheet_fields.specs.Runs.{contents}
use Rattle.sheet_cells.specs.Cells.{all_tiles, starts}
use Rattle.sheet.specs.Read.{sheet_lists}

-- of so many bays
unfoldable pub lists_of : Constraints → (bay count : ℕ) → List (List ℕ)
lists_of c bay zero = []
lists_of c bay (suc k) = list_of c bay ∷ lists_of c (bay + 1) k

-- the constraints that a sheet's lists are
abbrev pub sheet_constraints : (rows columns : ℕ) → List ℕ → Constraints
sheet_constraints rows columns text = lists (starts 0 (sheet_lists rows columns text)) (all_tiles (sheet_lists rows columns text))

-- the content of a bay's field
abbrev pub bay_content : (rows columns : ℕ) → List ℕ → (bay : ℕ) → List ℕ
bay_content rows columns text bay = get_or (contents (rows * columns) text) bay []
