-- Keys of a sheet with five fields a record, two names, two numbers and a sequence: which records are keys, and what is read off them. Assumes nothing.
use Rattle.std.specs.Prelude.{ℕ, zero, suc, ◌+◌, Bool, cond, List, [], ◌∷◌, eqb, Float, length, get_or, drop, Option, Some, None, Result, Ok, Err}
use Rattle.sheet_fields.specs.Runs.{contents, past}
use Rattle.sheet_numbers.specs.Floats.{is_read, value_as}
use Rattle.sheet_numbers.specs.declared.float_column.Kind.TheVariants.{Decimals}
use Rattle.sheet_fields.specs.declared.Place.{Place}

-- ---- which records are keys

-- a content without a byte
unfoldable pub is_blank : List ℕ → Bool
is_blank t = eqb (length t) 0

-- a number's content: a decimal where numbers are to be given, blank where a sequence is given instead
unfoldable pub fits : (numbers : Bool) → List ℕ → Bool
fits numbers t = cond numbers (is_read Decimals t) (is_blank t)

-- of the five contents of a record, the number of the first field that shows it to be no key: a key has a first name, and it has
-- numbers exactly where its sequence is blank
unfoldable pub key_fault : List (List ℕ) → Option ℕ
key_fault fields =
    cond (is_blank (get_or fields 0 []))
    (Some 1)
    (cond (fits (is_blank (get_or fields 4 [])) (get_or fields 2 []))
    (cond (fits (is_blank (get_or fields 4 [])) (get_or fields 3 [])) None (Some 4))
    (Some 3))

-- a record is refused by a field of its line, or those that follow are tested
abbrev pub told : (line : ℕ) → Option ℕ → Result Unit Place → Result Unit Place
told line (Some number) later = Err (record { line = line; field = number })
told line None later = later

-- of so many records from a line on, the first that is no key
unfoldable pub keys_from : (line records : ℕ) → List ℕ → Result Unit Place
keys_from line zero t = Ok tt
keys_from line (suc records) t = told line (key_fault (contents 5 t)) (keys_from (line + 1) records (past 5 t))

abbrev pub keys_fault : (records : ℕ) → List ℕ → Result Unit Place
keys_fault records t = keys_from 1 records t

-- ---- what is read off keys

-- the value of a number's content, 0.0 where it is no decimal
abbrev pub number : List ℕ → Float
number t = value_as Decimals t

-- ---- what the functions on the way find

-- the second one of every two, so many times
unfoldable pub seconds : ℕ → List ℕ → List ℕ
seconds zero l = []
seconds (suc n) l = get_or l 1 0 ∷ seconds n (drop 2 l)
