-- What the strands' sheet tells, a record for each strand but strand 0: names and logarithms. Assumes nothing.
use Rattle.std.specs.Prelude.{ℕ, List, ◌∷◌, map, Float, Option}
use Rattle.units.specs.Decimals.{plus}
use Rattle.name_strands.specs.Names.{null_name}
use Rattle.sheet_records.specs.Tables.{columns}
use Rattle.sheet_numbers.specs.Faults.{first_fault}
use Rattle.sheet_numbers.specs.Floats.{is_read, value_as}
use Rattle.sheet_numbers.specs.declared.float_column.Kind.TheVariants.{Logarithms}

-- the names of the strands: `null` for strand 0, then the first of the seven fields of each record
unfoldable pub names_of : (records : ℕ) → List ℕ → List (List ℕ)
names_of records sheet = null_name ∷ columns records 7 0 1 sheet

-- the second fields
abbrev pub log_fields : (records : ℕ) → List ℕ → List (List ℕ)
log_fields records sheet = columns records 7 1 1 sheet

-- the logarithms: 0.0 for strand 0, then what the second field of each record is read as
unfoldable pub logs_of : (records : ℕ) → List ℕ → List Float
logs_of records sheet = plus 0 1 ∷ map (value_as Logarithms) (log_fields records sheet)

-- the first line whose second field is no logarithm
unfoldable pub log_fault : (records : ℕ) → List ℕ → Option ℕ
log_fault records sheet = first_fault 1 (map (is_read Logarithms) (log_fields records sheet))
