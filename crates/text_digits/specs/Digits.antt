-- What the contracts cite of numbers and floats as digits. Assumes nothing.
use Rattle.std.specs.Prelude.{ℕ, ◌+◌, ◌-◌, ◌*◌, ◌^◌, Bool, true, cond, ◌&&◌, List, [], ◌∷◌, eqb, ltb, leb, Float, Option, Some, None, length}
use Rattle.std.specs.Float.{binary64}
use Rattle.std.specs.Float.Ieee.{of_bits}

-- what a byte is worth as a digit: `0` to `9`, then `a` to `f`; 16, which is no digit of a base here, where it is none of them
unfoldable pub digit : ℕ → ℕ
digit b = cond (leb 48 b && ltb b 58) (b - 48) (cond (leb 97 b && ltb b 103) (b - 87) 16)

-- the same, and nothing of a byte that is no digit
unfoldable pub digit_of : ℕ → Option ℕ
digit_of b = cond (ltb (digit b) 16) (Some (digit b)) None

-- whether each byte is a digit of the base
unfoldable pub all_digits : ℕ → List ℕ → Bool
all_digits base [] = true
all_digits base (x ∷ xs) = ltb (digit x) base && all_digits base xs

-- what the digits are worth together, the highest first, after digits that are worth n
unfoldable pub worth : ℕ → ℕ → List ℕ → ℕ
worth base n [] = n
worth base n (x ∷ xs) = worth base (n * base + digit x) xs

-- what a text is read as, as digits of the base that are worth less than 2^64
unfoldable pub whole_of : ℕ → List ℕ → Option ℕ
whole_of base value = cond (all_digits base value && ltb (worth base 0 value) (2 ^ 64)) (Some (worth base 0 value)) None

-- a number below a limit: 1 to 20 decimal digits that are worth less
unfoldable pub is_number : ℕ → List ℕ → Bool
is_number limit value = leb 1 (length value) && leb (length value) 20 && all_digits 10 value && ltb (worth 10 0 value) limit

-- what a value is read as, as a number below a limit
unfoldable pub number_of : ℕ → List ℕ → Option ℕ
number_of limit value = cond (is_number limit value) (Some (worth 10 0 value)) None

-- a float: 16 hexadecimal digits
unfoldable pub is_float : List ℕ → Bool
is_float value = eqb (length value) 16 && all_digits 16 value

-- what a value is read as, as the bits of a float
unfoldable pub bits_of : List ℕ → Option ℕ
bits_of value = cond (is_float value) (Some (worth 16 0 value)) None

-- the float with the bits that the digits give, a NaN where they are a NaN's
unfoldable pub float_in : List ℕ → Float
float_in value = of_bits binary64 (worth 16 0 value)

-- what a value is read as, as a float
unfoldable pub float_of : List ℕ → Option Float
float_of value = cond (is_float value) (Some (float_in value)) None
