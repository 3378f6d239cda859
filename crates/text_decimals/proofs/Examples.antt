-- The definitions at small texts, computed. Assumes nothing.
use Rattle.std.proofs.Common.{◌≡◌, ◌^◌, true, [], ◌∷◌, map, replicate, refl, Some, None}
use lib.Ieee.{inf, round}
use Rattle.units.specs.Decimals.{decimal, plus, minus}
use Rattle.text_digits.specs.Digits.{digit, all_digits, worth}
use Rattle.text_decimals.specs.Decimals.{whole_length, is_formed, are_few, is_unsigned, value_of, signed_of, decimal_of, is_minus_infinity, logarithm_of}

-- `-1.84`, `310.15`, `0`, `-0`, and `-inf` as a logarithm
read : map logarithm_of ((45 ∷ 49 ∷ 46 ∷ 56 ∷ 52 ∷ []) ∷ (51 ∷ 49 ∷ 48 ∷ 46 ∷ 49 ∷ 53 ∷ []) ∷ (48 ∷ []) ∷ (45 ∷ 48 ∷ []) ∷ (45 ∷ 105 ∷ 110 ∷ 102 ∷ []) ∷ [])
    ≡ Some (minus 184 100) ∷ Some (plus 31015 100) ∷ Some (plus 0 1) ∷ Some (minus 0 1) ∷ Some (inf true) ∷ []
unfolding decimal round digit all_digits worth whole_length is_formed are_few is_unsigned value_of signed_of decimal_of is_minus_infinity logarithm_of
read = refl

-- fifteen digits and sixteen, twenty-two places and twenty-three
longest : map decimal_of (replicate 15 57 ∷ replicate 16 57 ∷ (48 ∷ 46 ∷ replicate 22 48) ∷ (48 ∷ 46 ∷ replicate 23 48) ∷ [])
    ≡ Some (plus 999999999999999 1) ∷ None ∷ Some (plus 0 (10 ^ 22)) ∷ None ∷ []
unfolding decimal round digit all_digits worth whole_length is_formed are_few is_unsigned value_of signed_of decimal_of
longest = refl

-- no bytes, `-`, `.5`, `5.`, `007`, `1.2.3`, `+1`, `1e3`, `--1`, `inf`
refused : map logarithm_of ([] ∷ (45 ∷ []) ∷ (46 ∷ 53 ∷ []) ∷ (53 ∷ 46 ∷ []) ∷ (48 ∷ 48 ∷ 55 ∷ []) ∷ (49 ∷ 46 ∷ 50 ∷ 46 ∷ 51 ∷ []) ∷ (43 ∷ 49 ∷ []) ∷ (49 ∷ 101 ∷ 51 ∷ []) ∷ (45 ∷ 45 ∷ 49 ∷ []) ∷ (105 ∷ 110 ∷ 102 ∷ []) ∷ [])
    ≡ replicate 10 None
unfolding decimal round digit all_digits worth whole_length is_formed are_few is_unsigned value_of signed_of decimal_of is_minus_infinity logarithm_of
refused = refl
