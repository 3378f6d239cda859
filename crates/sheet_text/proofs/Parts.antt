-- Laws of a sheet's parts: how a field, a record and a sheet go on, and how many bays are left. Assumes nothing.
use Prim.Native.Nat.{ℕ, zero, suc, ◌+◌, ◌-◌, ◌*◌, ◌≤◌, ◌<◌}
use mathlib.Core.List.{List, [], ◌∷◌, ◌++◌}
use mathlib.Core.Path.{◌≡◌, refl}
use native.Mathlib.Numerals.{add-one}
use native.Mathlib.Nat.{add-zero, sub-zero, zero-mul, suc-mul}
use native.Mathlib.Omega.{arith}
use lib.ListN.{length, get_or, drop, drop_of_length-le}
use lib.Seq.{drop-cons}
use Rattle.text_put.specs.Puts.{number_text}
use Rattle.bay_lists.specs.Lists.{Constraints, list_of}
use Rattle.sheet_text.specs.Written.{gap, spaced, separator, row_text, sheet_text}

-- ---- what stands between numbers, and between fields

pub first_gap : (i : ℕ) → i ≡ 0 → [] ≡ gap i
unfolding gap
first_gap zero e = refl
first_gap (suc i) e = absurd (omega arith)

pub later_gap : (i : ℕ) → (i ≡ 0 → ⊥) → 32 ∷ [] ≡ gap i
unfolding gap
later_gap zero h = absurd (h refl)
later_gap (suc i) h = refl

pub gap_small : (i : ℕ) → length (gap i) ≤ 1
unfolding gap
gap_small zero = omega arith
gap_small (suc i) = omega arith

pub last_separator : (left : ℕ) → left ≡ 0 → 13 ∷ 10 ∷ [] ≡ separator left
unfolding separator
last_separator zero e = refl
last_separator (suc left) e = absurd (omega arith)

pub comma_separator : (left : ℕ) → (left ≡ 0 → ⊥) → 44 ∷ [] ≡ separator left
unfolding separator
comma_separator zero h = absurd (h refl)
comma_separator (suc left) h = refl

-- ---- a field

pub field_next : (list : List ℕ) (i : ℕ) → i < length list → spaced i (drop i list) ≡ gap i ++ number_text (get_or list i 0) ++ spaced (i + 1) (drop (i + 1) list)
unfolding spaced
field_next list i h = rw (drop-cons list i 0 h, add-one i)

pub field_end : (list : List ℕ) (i : ℕ) → length list ≤ i → spaced i (drop i list) ≡ []
unfolding spaced
field_end list i h = rw (drop_of_length-le list h)

-- ---- a record, by its columns, and the sheet, by its rows

-- the fields of a record from a column on
abbrev pub fields_from : Constraints → (first columns column : ℕ) → List ℕ
fields_from c first columns column = row_text c (first + column) (columns - column)

pub fields_all : (c : Constraints) (first columns : ℕ) → fields_from c first columns 0 ≡ row_text c first columns
fields_all c first columns = rw (add-zero first, sub-zero columns)

pub fields_next : (c : Constraints) (first columns column : ℕ) → column < columns
    → fields_from c first columns column ≡ spaced 0 (list_of c (first + column)) ++ separator (columns - column - 1) ++ fields_from c first columns (column + 1)
unfolding row_text
fields_next c first columns column h =
    let one_more : columns - column ≡ suc (columns - (column + 1)) = omega arith in
    let left : columns - column - 1 ≡ columns - (column + 1) = omega arith in
    let on : first + (column + 1) ≡ first + column + 1 = omega arith in
    rw (left, one_more, on)

pub fields_none : (c : Constraints) (first columns column : ℕ) → columns ≤ column → fields_from c first columns column ≡ []
unfolding row_text
fields_none c first columns column h = let none : columns - column ≡ 0 = omega arith in rw none

-- the records of a sheet from a row on
abbrev pub rows_from : Constraints → (columns rows row : ℕ) → List ℕ
rows_from c columns rows row = sheet_text c columns (row * columns) (rows - row)

pub rows_all : (c : Constraints) (columns rows : ℕ) → rows_from c columns rows 0 ≡ sheet_text c columns 0 rows
rows_all c columns rows = rw (zero-mul columns, sub-zero rows)

pub rows_next : (c : Constraints) (columns rows row : ℕ) → row < rows → rows_from c columns rows row ≡ row_text c (row * columns) columns ++ rows_from c columns rows (row + 1)
unfolding sheet_text
rows_next c columns rows row h =
    let one_more : rows - row ≡ suc (rows - (row + 1)) = omega arith in
    let on : (row + 1) * columns ≡ row * columns + columns = rw add-one (suc-mul row columns) in
    rw (one_more, on)

pub rows_none : (c : Constraints) (columns rows row : ℕ) → rows ≤ row → rows_from c columns rows row ≡ []
unfolding sheet_text
rows_none c columns rows row h = let none : rows - row ≡ 0 = omega arith in rw none
