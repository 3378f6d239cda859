-- The definitions at small contents, computed. Assumes nothing.
use Rattle.std.proofs.Common.{Some, None}
use Prim.Native.Nat.{ℕ}
use mathlib.Core.Bool.{true, false}
use mathlib.Core.List.{List, [], ◌∷◌, map}
use mathlib.Core.Path.{◌≡◌, refl}
use lib.Ieee.{inf, round}
use Rattle.units.specs.Decimals.{decimal, plus, minus}
use Rattle.text_digits.specs.Digits.{digit, all_digits, worth}
use Rattle.text_decimals.specs.Decimals.{whole_length, is_formed, are_few, is_unsigned, value_of, signed_of, decimal_of, is_minus_infinity, logarithm_of}
use Rattle.sheet_number_lists.specs.NumberLists.{is_plain_number, value_of as number_lists_value_of}
use Rattle.sheet_numbers.specs.Faults.{first_fault}
use Rattle.sheet_numbers.specs.declared.float_column.Kind.TheVariants.{Decimals, DecimalsOrBlanks, Logarithms}
use Rattle.sheet_numbers.specs.Floats.{read_as, is_read, value_as}
use Rattle.sheet_numbers.specs.Counts.{is_count, from_zero}

-- `-1.5`, nothing, `-inf` and `x`
column : List (List ℕ)
column = (45 ∷ 49 ∷ 46 ∷ 53 ∷ []) ∷ [] ∷ (45 ∷ 105 ∷ 110 ∷ 102 ∷ []) ∷ (120 ∷ []) ∷ []

lines : first_fault 1 (map (is_read Decimals) column) ∷ first_fault 1 (map (is_read DecimalsOrBlanks) column) ∷ first_fault 1 (map (is_read Logarithms) column) ∷ [] ≡ Some 2 ∷ Some 3 ∷ Some 2 ∷ []
unfolding column first_fault read_as decimal round digit all_digits worth whole_length is_formed are_few is_unsigned value_of signed_of decimal_of is_minus_infinity logarithm_of
lines = refl

values : map (value_as Logarithms) column ≡ minus 15 10 ∷ plus 0 1 ∷ inf true ∷ plus 0 1 ∷ []
unfolding column read_as decimal round digit all_digits worth whole_length is_formed are_few is_unsigned value_of signed_of decimal_of is_minus_infinity logarithm_of
values = refl

-- `1`, `32`, `4294967295`; `0`, `007`, `4294967296`, nothing
good : List (List ℕ)
good = (49 ∷ []) ∷ (51 ∷ 50 ∷ []) ∷ (52 ∷ 50 ∷ 57 ∷ 52 ∷ 57 ∷ 54 ∷ 55 ∷ 50 ∷ 57 ∷ 53 ∷ []) ∷ []

counted : map from_zero good ≡ 0 ∷ 31 ∷ 4294967294 ∷ []
unfolding good from_zero is_plain_number number_lists_value_of digit all_digits worth
counted = refl

sound : first_fault 1 (map is_count good) ≡ None
unfolding good first_fault is_count is_plain_number number_lists_value_of digit all_digits worth
sound = refl

refused : map is_count ((48 ∷ []) ∷ (48 ∷ 48 ∷ 55 ∷ []) ∷ (52 ∷ 50 ∷ 57 ∷ 52 ∷ 57 ∷ 54 ∷ 55 ∷ 50 ∷ 57 ∷ 54 ∷ []) ∷ [] ∷ []) ≡ false ∷ false ∷ false ∷ false ∷ []
unfolding is_count is_plain_number number_lists_value_of digit all_digits worth
refused = refl
