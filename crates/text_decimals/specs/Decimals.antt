-- Decimals as a sheet has them, and the floats nearest to the numbers as written. Assumes nothing.
use Rattle.std.specs.Prelude.{ℕ, suc, ◌^◌, Bool, true, false, cond, not, ◌&&◌, ◌||◌, List, [], ◌∷◌, ◌++◌, length, take, drop, ◌==◌, nat_le, nat_lt, slice_index, Float, Option, Some, None}
use Rattle.std.specs.Float.{inf}
use Rattle.units.specs.Decimals.{decimal}
use Rattle.text_digits.specs.Digits.{all_digits, worth}

-- how many bytes stand before the point, all of them where there is none
unfoldable pub whole_length : List ℕ → ℕ
whole_length [] = 0
whole_length (b ∷ t) = cond (b == 46) 0 (suc (whole_length t))

-- what stands before the point and what stands after it
abbrev pub whole_part : List ℕ → List ℕ
whole_part t = take (whole_length t) t

abbrev pub places : List ℕ → List ℕ
places t = drop (suc (whole_length t)) t

-- at least one digit before the point, no 0 in front of another one there, and at least one digit after it, where there is a point
unfoldable pub is_formed : List ℕ → Bool
is_formed t =
    nat_le 1 (whole_length t) && ((whole_length t == 1 || not (slice_index t 0 == 48)) && (whole_length t == length t || nat_le 1 (length (places t))))

-- digits that are worth less than 10^15 together, after others that are worth n
unfoldable pub are_few : ℕ → List ℕ → Bool
are_few n t = all_digits 10 t && nat_lt (worth 10 n t) (10 ^ 15)

unfoldable pub digits_after : ℕ → List ℕ → Option ℕ
digits_after n t = cond (are_few n t) (Some (worth 10 n t)) None

-- a whole number below 10^15 over a power of ten, rounded once
abbrev pub over_ten : (negative : Bool) → Option ℕ → (places : ℕ) → Option Float
over_ten negative (Some n) places = cond (nat_lt n (10 ^ 15)) (Some (decimal negative n (10 ^ places))) None
over_ten negative None places = None

-- a number without a sign: at most 15 digits, those of value 0 in front not counted, of which at most 22 stand after the point
unfoldable pub is_unsigned : List ℕ → Bool
is_unsigned t = is_formed t && (nat_le (length (places t)) 22 && are_few 0 (whole_part t ++ places t))

-- its digits over a power of ten, rounded once, with the sign in front
unfoldable pub value_of : (negative : Bool) → List ℕ → Float
value_of negative t = decimal negative (worth 10 0 (whole_part t ++ places t)) (10 ^ length (places t))

unfoldable pub signed_of : (negative : Bool) → List ℕ → Option Float
signed_of negative t = cond (is_unsigned t) (Some (value_of negative t)) None

-- a decimal: a number without a sign, or a minus and such a number
unfoldable pub decimal_of : List ℕ → Option Float
decimal_of t = cond (slice_index t 0 == 45) (signed_of true (drop 1 t)) (signed_of false t)

-- the logarithm of a concentration: a decimal, or `-inf`
unfoldable pub is_minus_infinity : List ℕ → Bool
is_minus_infinity t = length t == 4 && (slice_index t 0 == 45 && (slice_index t 1 == 105 && (slice_index t 2 == 110 && slice_index t 3 == 102)))

unfoldable pub logarithm_of : List ℕ → Option Float
logarithm_of t = cond (is_minus_infinity t) (Some (inf true)) (decimal_of t)
