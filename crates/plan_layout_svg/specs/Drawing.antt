-- A layout as a drawing in SVG: the bays of a row, the rows, the whole. Assumes nothing.
use Rattle.std.specs.Prelude.{ℕ, zero, suc, ◌+◌, ◌*◌, max, Bool, cond, ◌&&◌, List, [], ◌++◌, leb, Float, get_or, drop}
use Rattle.units.specs.Limits.{most_side}
use Rattle.name_strands.specs.Names.{StrandNames}
use Rattle.plan_bay_drawing.specs.Squares.{bay_drawing}
use Rattle.plan_layout_svg.specs.Frame.{head, foot}

-- so many bays of a row from a column on; tiles and marks that are not there are 0
unfoldable pub row_drawing : StrandNames → (row column : ℕ) → (tiles marks : List ℕ) → (left : ℕ) → List ℕ
row_drawing n row column tiles marks zero = []
row_drawing n row column tiles marks (suc left) =
    bay_drawing n (24 + 80 * column) (64 + 80 * row) (get_or tiles 0 0) (get_or marks 0 0) ++ row_drawing n row (column + 1) (drop 1 tiles) (drop 1 marks) left

-- so many rows from one on
unfoldable pub rows_drawing : StrandNames → (columns row : ℕ) → (tiles marks : List ℕ) → (left : ℕ) → List ℕ
rows_drawing n columns row tiles marks zero = []
rows_drawing n columns row tiles marks (suc left) =
    row_drawing n row 0 tiles marks columns ++ rows_drawing n columns (row + 1) (drop columns tiles) (drop columns marks) left

-- the size in pixels: 80 for each bay, three columns at the least, and room around them, for the energy and for what the marks mean
abbrev pub pixels_across : (columns : ℕ) → ℕ
pixels_across columns = 80 * max columns 3 + 40

abbrev pub pixels_down : (rows : ℕ) → ℕ
pixels_down rows = 80 * rows + 124

abbrev pub drawing : (rows columns : ℕ) → StrandNames → (layout marks : List ℕ) → Float → List ℕ
drawing rows columns n layout marks energy =
    head (pixels_across columns) (pixels_down rows) energy ++ rows_drawing n columns 0 layout marks rows ++ foot (80 * rows + 78)

-- nothing is drawn of a grid with more rows or columns than there may be
abbrev pub is_drawn : (rows columns : ℕ) → Bool
is_drawn rows columns = leb rows most_side && leb columns most_side

unfoldable pub svg_text : (rows columns : ℕ) → StrandNames → (layout marks : List ℕ) → Float → List ℕ
svg_text rows columns n layout marks energy = cond (is_drawn rows columns) (drawing rows columns n layout marks energy) []
