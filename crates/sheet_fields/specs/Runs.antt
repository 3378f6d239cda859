-- The fields that a text begins with, one after the other: their contents, how many bytes they take, and what follows them. Assumes nothing.
use Rattle.std.specs.Prelude.{ℕ, zero, suc, ◌+◌, Bool, cond, List, [], ◌∷◌, eqb, ltb}
use Rattle.sheet_fields.specs.Fields.{field, content, after}

-- the contents of so many fields, quotes taken off
unfoldable pub contents : ℕ → List ℕ → List (List ℕ)
contents zero t = []
contents (suc k) t = content t ∷ contents k (after t)

-- the text after so many fields
unfoldable pub past : ℕ → List ℕ → List ℕ
past zero t = t
past (suc k) t = past k (after t)

-- how many bytes so many fields take with their ends
unfoldable pub bytes_in : ℕ → List ℕ → ℕ
bytes_in zero t = 0
bytes_in (suc k) t = (field t).next + bytes_in k (after t)

-- the field at the front is followed by another one of its record exactly where fields are left
unfoldable pub goes_on : (left : ℕ) → List ℕ → Bool
goes_on left t = cond (field t).more (ltb 0 left) (eqb left 0)

-- the field at the front is sound, whatever its content
unfoldable pub is_sound : List ℕ → Bool
is_sound t = (field t).sound

-- of a record with so many fields left, the number of the first that fails a test, is missing or surplus, counted on from a number; 0 where none does
unfoldable pub record_fault : (test : List ℕ → Bool) → (number left : ℕ) → List ℕ → ℕ
record_fault test number zero t = 0
record_fault test number (suc left) t = cond (test t) (cond (goes_on left t) (record_fault test (number + 1) left (after t)) (number + 1)) number

-- the same of one field: whether it passed its test, and whether its record goes on
abbrev pub field_fault : (number left : ℕ) → (passed more : Bool) → ℕ
field_fault number left passed more = cond passed (cond (cond more (ltb 0 left) (eqb left 0)) 0 (number + 1)) number
