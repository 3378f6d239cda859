-- The definitions at a small sheet, computed. Assumes nothing.
use Rattle.std.proofs.Common.{Some}
use Prim.Native.Nat.{ℕ}
use mathlib.Core.List.{List, [], ◌∷◌}
use mathlib.Core.Path.{◌≡◌, refl}
use lib.Ieee.{round}
use Rattle.units.specs.Decimals.{decimal, plus, minus}
use Rattle.text_digits.specs.Digits.{digit, all_digits, worth}
use Rattle.name_strands.specs.Names.{null_name}
use Rattle.text_decimals.specs.Decimals.{whole_length, is_formed, are_few, is_unsigned, value_of, signed_of, decimal_of, is_minus_infinity, logarithm_of}
use Rattle.sheet_fields.specs.Fields.{is_plain, plain_length, ending_of, field_of, bare_field, is_quoted, field, raw, content, after}
use Rattle.sheet_fields.specs.Runs.{contents, past}
use Rattle.sheet_records.specs.Tables.{columns}
use Rattle.sheet_numbers.specs.Faults.{first_fault}
use Rattle.sheet_numbers.specs.Floats.{read_as}
use Rattle.sheet_strands.specs.Strands.{names_of, logs_of, log_fault}

-- `A,-1.5,,,,,` and `,x,,,,,`: a strand with a logarithm, and one without a name whose logarithm is none
sheet : List ℕ
sheet = 65 ∷ 44 ∷ 45 ∷ 49 ∷ 46 ∷ 53 ∷ 44 ∷ 44 ∷ 44 ∷ 44 ∷ 44 ∷ 10 ∷ 44 ∷ 120 ∷ 44 ∷ 44 ∷ 44 ∷ 44 ∷ 44 ∷ 10 ∷ []

names : names_of 2 sheet ≡ null_name ∷ (65 ∷ []) ∷ [] ∷ []
unfolding names_of sheet columns contents past is_plain plain_length ending_of field_of bare_field is_quoted field raw content after
names = refl

logs : logs_of 2 sheet ≡ plus 0 1 ∷ minus 15 10 ∷ plus 0 1 ∷ []
unfolding logs_of sheet columns contents past is_plain plain_length ending_of field_of bare_field is_quoted field raw content after
    read_as decimal round digit all_digits worth whole_length is_formed are_few is_unsigned value_of signed_of decimal_of is_minus_infinity logarithm_of
logs = refl

line : log_fault 2 sheet ≡ Some 2
unfolding log_fault sheet columns contents past is_plain plain_length ending_of field_of bare_field is_quoted field raw content after
    first_fault read_as decimal round digit all_digits worth whole_length is_formed are_few is_unsigned value_of signed_of decimal_of is_minus_infinity logarithm_of
line = refl
