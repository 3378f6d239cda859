-- What the tests of a field, a record and a sheet find. Assumes nothing.
use Rattle.std.specs.Prelude.{ℕ, zero, suc, ◌+◌, ◌*◌, Bool, true, cond, ◌&&◌, List, eqb, length, drop, Option, Some, None, Result, Ok, Err}
use Rattle.units.specs.Refusals.{answer}
use Rattle.units.specs.declared.refusal.Refusal.{Refusal}
use Rattle.units.specs.declared.refusal.Refusal.TheVariants.{Field}
use Rattle.sheet_fields.specs.Fields.{field, content, after}
use Rattle.sheet_fields.specs.Runs.{bytes_in, record_fault}
use Rattle.sheet_number_lists.specs.NumberLists.{list_in}
use Rattle.sheet_cells.specs.Cells.{is_cell, cells, sheet_verdict, all_tiles}
use Rattle.sheet_cells.specs.declared.cells.Cell.{Cell}
use Rattle.sheet_cells.specs.declared.cells.Record.{Record}

-- how many numbers the first fields of a text have in all
unfoldable pub count_in : ℕ → List ℕ → ℕ
count_in k t = length (all_tiles (cells k t))

-- the first fields of a text are all sound, with a list each
unfoldable pub are_cells : ℕ → List ℕ → Bool
are_cells zero t = true
are_cells (suc k) t = is_cell t && are_cells k (after t)

-- the field at a place, where it is a cell: whether its record goes on, the place after it, and how many numbers it has
abbrev pub cell_at : List ℕ → ℕ → Option Cell
cell_at text at =
    cond (is_cell (drop at text))
    (Some (record { more = (field (drop at text)).more; next = at + (field (drop at text)).next; count = length (list_in (content (drop at text))) }))
    None

-- the number of the first fault in the line at the front of a text: of one that is missing the first field is
unfoldable pub line_fault : (columns : ℕ) → List ℕ → ℕ
line_fault columns t = cond (eqb (length t) 0) 1 (record_fault is_cell 1 columns t)

-- the record at a place, which is a line of its sheet: the place after it and how many numbers it has, or its first fault
abbrev pub record_at : (line columns : ℕ) → List ℕ → ℕ → Result Record Refusal
record_at line columns text at =
    cond (eqb (line_fault columns (drop at text)) 0)
    (Ok (record { next = at + bytes_in columns (drop at text); count = count_in columns (drop at text) }))
    (Err (Field line (line_fault columns (drop at text))))

-- how many numbers the sheet has, or its first fault
abbrev pub sheet_check : (rows columns : ℕ) → List ℕ → Result ℕ Refusal
sheet_check rows columns text = answer (sheet_verdict rows columns text) (count_in (rows * columns) text)
