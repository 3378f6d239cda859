-- What the seeds' sheet tells, a record of three fields for each seed: its row and its column, counted from 1, and its name. Assumes nothing.
use Rattle.std.specs.Prelude.{ℕ, ◌+◌, Bool, cond, List, [], ◌∷◌, map, Result, Ok, Err}
use Rattle.sheet_fields.specs.declared.Place.{Place}
use Rattle.sheet_records.specs.Tables.{columns}
use Rattle.sheet_numbers.specs.Counts.{is_count, from_zero}

-- row and column of each seed, as they stand in the sheet
abbrev pub place_fields : (records : ℕ) → List ℕ → List (List ℕ)
place_fields records sheet = columns records 3 0 2 sheet

-- row and column of each seed, counted from 0
unfoldable pub places_of : (records : ℕ) → List ℕ → List ℕ
places_of records sheet = map from_zero (place_fields records sheet)

-- all rows and columns can be read, or one cannot: its line and the number of its field
abbrev pub all_read : Result Unit Place
all_read = Ok tt

abbrev pub fault : (line field : ℕ) → Result Unit Place
fault line field = Err (record { line = line; field = field })

-- of rows and columns by turns that can be read or not, the first that cannot, counted from a line on
unfoldable pub first_of : (line : ℕ) → List Bool → Result Unit Place
first_of line [] = all_read
first_of line (row ∷ []) = all_read
first_of line (row ∷ column ∷ more) = cond row (cond column (first_of (line + 1) more) (fault line 2)) (fault line 1)

-- the first row or column that is none
unfoldable pub place_fault : (records : ℕ) → List ℕ → Result Unit Place
place_fault records sheet = first_of 1 (map is_count (place_fields records sheet))

-- the names of the seeds
unfoldable pub seed_names : (records : ℕ) → List ℕ → List (List ℕ)
seed_names records sheet = columns records 3 2 1 sheet

-- ---- what the functions on the way find

-- the fault found so far, or that of a line whose row and column can be read or not
unfoldable pub first_found : Result Unit Place → (row column : Bool) → (line : ℕ) → Result Unit Place
first_found (Err found) row column line = Err found
first_found (Ok done) row column line = cond row (cond column all_read (fault line 2)) (fault line 1)
