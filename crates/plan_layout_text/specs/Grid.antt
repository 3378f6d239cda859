-- A layout as a grid of tile names: the text of a bay, of a row, of the layout. Assumes nothing.
use Rattle.std.specs.Prelude.{ℕ, zero, suc, ◌-◌, List, [], ◌∷◌, ◌++◌, get_or, drop}
use Rattle.name_strands.specs.Names.{StrandNames}
use Rattle.plan_bay_names.specs.Bays.{bay_text, character_count, widest_bay}

-- so many spaces
unfoldable pub spaces : ℕ → List ℕ
spaces zero = []
spaces (suc count) = 32 ∷ spaces count

-- what stands after what is shown for a bay: spaces to the widest and two more, nothing after the last bay of a row
unfoldable pub gap : (width used left : ℕ) → List ℕ
gap width used zero = []
gap width used (suc left) = spaces (width - used) ++ 32 ∷ 32 ∷ []

-- what is shown for a bay, so many bays of the row being left after it
abbrev pub cell_text : (width left : ℕ) → (shown : List ℕ) → List ℕ
cell_text width left shown = shown ++ gap width (character_count shown) left

-- so many bays of the tiles as the end of a line; tiles that are not there are empty bays
unfoldable pub row_text : StrandNames → (width : ℕ) → (tiles : List ℕ) → (left : ℕ) → List ℕ
row_text n width tiles zero = 10 ∷ []
row_text n width tiles (suc left) = cell_text width left (bay_text n (get_or tiles 0 0)) ++ row_text n width (drop 1 tiles) left

-- so many rows of the tiles, one a line
unfoldable pub rows_text : StrandNames → (width columns : ℕ) → (tiles : List ℕ) → (rows : ℕ) → List ℕ
rows_text n width columns tiles zero = []
rows_text n width columns tiles (suc rows) = row_text n width tiles columns ++ rows_text n width columns (drop columns tiles) rows

abbrev pub layout_text : (rows columns : ℕ) → StrandNames → (layout : List ℕ) → List ℕ
layout_text rows columns n layout = rows_text n (widest_bay n layout) columns layout rows
