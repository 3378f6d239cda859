-- Columns of rows and columns of a grid as people count them, from 1. Assumes nothing.
use Rattle.std.specs.Prelude.{ℕ, ◌-◌, Bool, cond, ◌&&◌, List, ltb, Option, Some, None}
use Rattle.sheet_number_lists.specs.NumberLists.{is_plain_number, value_of}

-- a plain number that is not 0
unfoldable pub is_count : List ℕ → Bool
is_count t = is_plain_number t && ltb 0 (value_of t)

-- the same counted from 0, 0 too where it is none
unfoldable pub from_zero : List ℕ → ℕ
from_zero t = value_of t - 1

abbrev pub count_of : List ℕ → Option ℕ
count_of t = cond (is_count t) (Some (from_zero t)) None
