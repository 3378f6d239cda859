-- A sheet as it is written: unquoted, numbers with single spaces between them, each record ended by CR LF. Assumes nothing.
use Rattle.std.specs.Prelude.{ℕ, zero, suc, ◌+◌, List, [], ◌∷◌, ◌++◌}
use Rattle.text_put.specs.Puts.{number_text}
use Rattle.bay_lists.specs.Lists.{Constraints, list_of}

-- a space before each number but the one at place 0
unfoldable pub gap : ℕ → List ℕ
gap zero = []
gap (suc i) = 32 ∷ []

-- the numbers of a list from place i on
unfoldable pub spaced : ℕ → List ℕ → List ℕ
spaced i [] = []
spaced i (n ∷ ns) = gap i ++ number_text n ++ spaced (suc i) ns

-- a comma after a field, CR LF after the last of its record
unfoldable pub separator : (left : ℕ) → List ℕ
separator zero = 13 ∷ 10 ∷ []
separator (suc left) = 44 ∷ []

-- the fields of some bays from one on, as far as their record goes
unfoldable pub row_text : Constraints → (bay left : ℕ) → List ℕ
row_text c bay zero = []
row_text c bay (suc left) = spaced 0 (list_of c bay) ++ separator left ++ row_text c (bay + 1) left

-- the records of some rows, from a bay on
unfoldable pub sheet_text : Constraints → (columns bay rows : ℕ) → List ℕ
sheet_text c columns bay zero = []
sheet_text c columns bay (suc rows) = row_text c bay columns ++ sheet_text c columns (bay + columns) rows
