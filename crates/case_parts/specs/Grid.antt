-- What the contracts cite of the rows and columns of a case. Assumes nothing.
use Rattle.std.specs.Prelude.{ℕ, ◌*◌, ◌^◌, suc, min, List, Option, Some, None}
use Rattle.text_put.specs.Words.{bytes}
use Rattle.text_digits.specs.Digits.{number_of}
use Rattle.case_text.specs.Fields.{words, first_field}
use Rattle.units.specs.Limits.{most_side}
use Rattle.case_parts.specs.declared.grid.Grid.{Grid}

-- the number of the field with that key
abbrev pub number_at : (key line : List ℕ) → Option ℕ
number_at key line = number_of (2 ^ 64) (first_field key (words line))

-- two numbers, if both could be read
abbrev pub grid_of : (rows cols : Option ℕ) → Option Grid
grid_of (Some rows) (Some cols) = Some (record { rows = rows; cols = cols })
grid_of (Some rows) None = None
grid_of None cols = None

-- the rows and columns that a case gives
abbrev pub grid_read : (line : List ℕ) → Option Grid
grid_read line = grid_of (number_at (bytes "rows") line) (number_at (bytes "cols") line)

-- the bays of a grid, a side past the limit taken for the first that is
abbrev pub bays_of : (rows cols : ℕ) → ℕ
bays_of rows cols = min rows (suc most_side) * min cols (suc most_side)
