-- The numerals text, and numbers in decimal. Assumes nothing.
use Rattle.std.specs.Prelude.{ℕ, zero, suc, ◌+◌, ◌*◌, ◌/◌, ◌%◌, cond, List, [], ◌∷◌, ◌++◌, ltb}

-- a digit as a byte; 48 is the byte of 0
abbrev pub digit : ℕ → ℕ
digit d = 48 + d

-- two digits for each of `count` numbers from i on
unfoldable pub numerals_from : (i count : ℕ) → List ℕ
numerals_from i zero = []
numerals_from i (suc count) = digit (i / 10) ∷ digit (i % 10) ∷ numerals_from (suc i) count

-- two digits for each i from 0 to 62
abbrev pub numerals_text : List ℕ
numerals_text = numerals_from 0 63

-- where the digits that are shown for i stand in the numerals text: both, below 10 the second alone
abbrev pub numeral_start : ℕ → ℕ
numeral_start i = cond (ltb i 10) (2 * i + 1) (2 * i)

abbrev pub numeral_end : ℕ → ℕ
numeral_end i = 2 * i + 2

-- i in decimal, in as many digits as it takes and at most `places`
unfoldable pub decimal_in : (places i : ℕ) → List ℕ
decimal_in zero i = []
decimal_in (suc places) i = cond (ltb i 10) (digit i ∷ []) (decimal_in places (i / 10) ++ (digit (i % 10) ∷ []))

-- i in decimal, which takes no more digits than i + 1
abbrev pub decimal : ℕ → List ℕ
decimal i = decimal_in (suc i) i
