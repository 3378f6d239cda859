-- The definitions at small sheets, computed. Assumes nothing.
use Rattle.std.specs.Prelude.{Some, None, Err}
use Prim.Native.Nat.{ℕ}
use mathlib.Core.List.{List, [], ◌∷◌, map}
use mathlib.Core.Path.{◌≡◌, refl}
use lib.Ieee.{round}
use Rattle.units.specs.Decimals.{decimal, plus}
use Rattle.text_digits.specs.Digits.{digit, all_digits, worth}
use Rattle.text_decimals.specs.Decimals.{whole_length, is_formed, are_few, is_unsigned, value_of, signed_of, decimal_of}
use Rattle.sheet_fields.specs.Fields.{is_plain, plain_length, ending_of, field_of, bare_field, quoted_field, is_quoted, field, raw, content, after}
use Rattle.sheet_fields.specs.Runs.{contents, past}
use Rattle.sheet_records.specs.Tables.{columns}
use Rattle.sheet_numbers.specs.Floats.{read_as}
use Rattle.sheet_keys.specs.SheetKeys.{is_blank, fits, key_fault, keys_from, keys_fault, number, seconds}

-- names, the numbers `-1.5` and `2`, a text that is no number, and a sequence
a : List ℕ
a = 97 ∷ []

dg : List ℕ
dg = 45 ∷ 49 ∷ 46 ∷ 53 ∷ []

ds : List ℕ
ds = 50 ∷ []

x : List ℕ
x = 120 ∷ []

acg : List ℕ
acg = 65 ∷ 67 ∷ 71 ∷ []

-- keys: of one name and of two, with numbers and with a sequence
keys : map key_fault ((a ∷ [] ∷ dg ∷ ds ∷ [] ∷ []) ∷ (a ∷ x ∷ dg ∷ ds ∷ [] ∷ []) ∷ (a ∷ x ∷ [] ∷ [] ∷ acg ∷ []) ∷ []) ≡ None ∷ None ∷ None ∷ []
unfolding a dg ds x acg key_fault fits is_blank read_as decimal round digit all_digits worth whole_length is_formed are_few is_unsigned value_of signed_of decimal_of
keys = refl

-- no first name; neither numbers nor a sequence; a number that is none; one number; a sequence and a number
faults : map key_fault (([] ∷ a ∷ dg ∷ ds ∷ [] ∷ []) ∷ (a ∷ x ∷ [] ∷ [] ∷ [] ∷ []) ∷ (a ∷ x ∷ x ∷ ds ∷ [] ∷ []) ∷ (a ∷ x ∷ dg ∷ [] ∷ [] ∷ []) ∷ (a ∷ x ∷ dg ∷ [] ∷ acg ∷ []) ∷ (a ∷ x ∷ [] ∷ ds ∷ acg ∷ []) ∷ []) ≡ Some 1 ∷ Some 3 ∷ Some 3 ∷ Some 4 ∷ Some 3 ∷ Some 4 ∷ []
unfolding a dg ds x acg key_fault fits is_blank read_as decimal round digit all_digits worth whole_length is_formed are_few is_unsigned value_of signed_of decimal_of
faults = refl

-- `a,,2,2,` and `a,x,,2,A`, each with its line's end
sheet : List ℕ
sheet = 97 ∷ 44 ∷ 44 ∷ 50 ∷ 44 ∷ 50 ∷ 44 ∷ 10 ∷ 97 ∷ 44 ∷ 120 ∷ 44 ∷ 44 ∷ 50 ∷ 44 ∷ 65 ∷ 10 ∷ []

first_fault_lem : keys_fault 2 sheet ≡ Err (record { line = 2; field = 4 })
unfolding sheet keys_from key_fault fits is_blank read_as decimal round digit all_digits worth whole_length is_formed are_few is_unsigned value_of signed_of decimal_of contents past content raw after field is_quoted quoted_field bare_field field_of ending_of plain_length is_plain
first_fault_lem = refl

-- the numbers in reading order, 0.0 for a blank
numbers : map number (columns 2 5 2 2 sheet) ≡ plus 2 1 ∷ plus 2 1 ∷ plus 0 1 ∷ plus 2 1 ∷ []
unfolding sheet columns read_as decimal round digit all_digits worth whole_length is_formed are_few is_unsigned value_of signed_of decimal_of contents past content raw after field is_quoted quoted_field bare_field field_of ending_of plain_length is_plain
numbers = refl

flags : seconds 2 (1 ∷ 0 ∷ 1 ∷ 1 ∷ 7 ∷ []) ≡ 0 ∷ 1 ∷ []
unfolding seconds
flags = refl
