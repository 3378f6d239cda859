-- What reading a constraint sheet answers and writes. Assumes nothing.
use Rattle.std.specs.Prelude.{ℕ, ◌+◌, ◌*◌, not, ◌&&◌, List, Result, eqb, ltb, length}
use Rattle.units.specs.Limits.{most_side, from_one_to}
use Rattle.units.specs.declared.refusal.Refusal.{Refusal}
use Rattle.units.specs.declared.refusal.Refusal.TheVariants.{Size, Shape, NoRoom}
use Rattle.units.specs.Refusals.{Verdict, refuse_if, answer, if_passes, ◌▷◌}
use Rattle.sheet_cells.specs.Cells.{cells, sheet_verdict, all_tiles, starts, front}

-- 1: rows and columns from 1 to 32
abbrev pub grid_verdict : (rows columns : ℕ) → Verdict
grid_verdict rows columns = refuse_if (not (from_one_to most_side rows && from_one_to most_side columns)) Size

-- the lists of the sheet, row by row, and how many numbers they have in all
abbrev pub sheet_lists : (rows columns : ℕ) → List ℕ → List (List ℕ)
sheet_lists rows columns text = cells (rows * columns) text

abbrev pub tile_count : (rows columns : ℕ) → List ℕ → ℕ
tile_count rows columns text = length (all_tiles (sheet_lists rows columns text))

-- 1, 19, then 5 for offsets lent that are not one more than the bays, last 9 with the count of numbers
abbrev pub read_verdict : (rows columns : ℕ) → (text offsets tiles : List ℕ) → Verdict
read_verdict rows columns text offsets tiles =
    grid_verdict rows columns
    ▷ sheet_verdict rows columns text
    ▷ refuse_if (not (eqb (length offsets) (rows * columns + 1))) Shape
    ▷ refuse_if (ltb (length tiles) (tile_count rows columns text)) (NoRoom (tile_count rows columns text))

abbrev pub read_answer : (rows columns : ℕ) → (text offsets tiles : List ℕ) → Result ℕ Refusal
read_answer rows columns text offsets tiles = answer (read_verdict rows columns text offsets tiles) (tile_count rows columns text)

-- what was lent afterwards: a refusal writes nothing, and places beyond the count keep what they held
abbrev pub offsets_after : (rows columns : ℕ) → (text offsets tiles : List ℕ) → List ℕ
offsets_after rows columns text offsets tiles =
    if_passes (read_verdict rows columns text offsets tiles) (starts 0 (sheet_lists rows columns text)) offsets

abbrev pub tiles_after : (rows columns : ℕ) → (text offsets tiles : List ℕ) → List ℕ
tiles_after rows columns text offsets tiles =
    if_passes (read_verdict rows columns text offsets tiles) (front (all_tiles (sheet_lists rows columns text)) tiles) tiles
