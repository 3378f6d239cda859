-- Sheets of records that all have the same number of fields: their first fault, how many records they have, and their columns. Assumes nothing.
use Rattle.std.specs.Prelude.{ℕ, zero, suc, ◌+◌, cond, List, [], ◌++◌, eqb, length, drop, Result, Ok, Err}
use Rattle.units.specs.Limits.{most_side}
use Rattle.sheet_fields.specs.Fields.{field, after}
use Rattle.sheet_fields.specs.Runs.{contents, past, bytes_in, is_sound, record_fault}
use Rattle.sheet_fields.specs.declared.Place.{Place}

-- how many records a table has, or no record and the line and the number of its first fault
pub record TableCheck : Type 0 where
  pub records : ℕ
  pub line : ℕ
  pub field : ℕ

abbrev pub place : (line number : ℕ) → Place
place line number = record { line = line; field = number }

-- a table of so many records, and one with a fault
abbrev pub sound : (records : ℕ) → TableCheck
sound records = record { records = records; line = 0; field = 0 }

abbrev pub faulty : (line number : ℕ) → TableCheck
faulty line number = record { records = 0; line = line; field = number }

-- what is left of a table after some records, where so many more are allowed: where no bytes are left no record is, and a record too
-- many is told by its first field
unfoldable pub table_from : (width records left : ℕ) → List ℕ → TableCheck
table_from width records zero t = cond (eqb (length t) 0) (sound records) (faulty (records + 1) 1)
table_from width records (suc left) t =
    cond (eqb (length t) 0)
    (sound records)
    (cond (eqb (record_fault is_sound 1 width t) 0) (table_from width (records + 1) left (past width t)) (faulty (records + 1) (record_fault is_sound 1 width t)))

-- records of so many fields each, no more than `most`
abbrev pub table_check : (width most : ℕ) → List ℕ → TableCheck
table_check width most t = table_from width 0 most t

-- the same as it is answered: how many records, or the place of the first fault
abbrev pub table_answer : TableCheck → Result ℕ Place
table_answer c = cond (eqb c.line 0) (Ok c.records) (Err (place c.line c.field))

-- how many fields the record at the front of a text has, counted no further than so many; a field that is not sound is the last one
unfoldable pub width_up_to : ℕ → List ℕ → ℕ
width_up_to zero t = 0
width_up_to (suc left) t = cond (field t).more (suc (width_up_to left (after t))) 1

-- of the first record, counted no further than one more than a grid has columns; no bytes are no record
unfoldable pub first_width : List ℕ → ℕ
first_width t = cond (eqb (length t) 0) 0 (width_up_to (most_side + 1) t)

-- of each record of so many fields, the contents of `count` fields from one on, counted from 0, in reading order
unfoldable pub columns : (records width from count : ℕ) → List ℕ → List (List ℕ)
columns zero width from count t = []
columns (suc records) width from count t = contents count (past from t) ++ columns records width from count (past width t)

-- ---- what the functions on the way find

-- the place after the record at a place, which is a line of its sheet, or the place of its first fault
abbrev pub record_at : (line width : ℕ) → List ℕ → ℕ → Result ℕ Place
record_at line width text at =
    cond (eqb (record_fault is_sound 1 width (drop at text)) 0)
    (Ok (at + bytes_in width (drop at text)))
    (Err (place line (record_fault is_sound 1 width (drop at text))))
