-- The value of an internal loop by its length. Assumes nothing.
use Rattle.std.specs.Prelude.{ℕ, List, [], ◌∷◌, Option, ◌==◌, Float, get_or, position}
use Rattle.std.specs.Option.{option_map}
use Rattle.units.specs.Decimals.{plus}

-- `LENGTHS`, and the internal loops of `LOOP_TABLE` in tenths of a kcal/mol
unfoldable pub lengths : List ℕ
lengths = 3 ∷ 4 ∷ 5 ∷ 6 ∷ 7 ∷ 8 ∷ 9 ∷ 10 ∷ 12 ∷ 14 ∷ 16 ∷ 18 ∷ 20 ∷ 25 ∷ 30 ∷ []

unfoldable pub loop_table : List ℕ
loop_table = 32 ∷ 36 ∷ 40 ∷ 44 ∷ 46 ∷ 48 ∷ 49 ∷ 49 ∷ 52 ∷ 54 ∷ 56 ∷ 58 ∷ 59 ∷ 63 ∷ 66 ∷ []

-- a number of tenths, rounded once
abbrev pub tenths : ℕ → Float
tenths n = plus n 10

-- the place of a tabled length
abbrev pub place_of : ℕ → Option ℕ
place_of length = position (λ tabled. tabled == length) lengths

-- the value at a place of the table
abbrev pub value_at : ℕ → Float
value_at place = tenths (get_or loop_table place 0)

-- what a closed loop of this length adds: the value at the length's place, if it is a tabled one
abbrev pub loop_penalty : ℕ → Option Float
loop_penalty length = option_map value_at (place_of length)
