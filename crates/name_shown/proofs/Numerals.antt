-- How long the numerals text is. Assumes nothing.
use Prim.Native.Nat.{ℕ}
use mathlib.Core.Path.{◌≡◌, ap}
use mathlib.Core.List.{List}
use lib.ListN.{length}
use Rattle.name_strands.specs.Numerals.{numerals_from, numerals_text}

-- the digits of 63 numbers, two for each
pub numerals_length : (numerals : List ℕ) → numerals ≡ numerals_text → length numerals ≡ 126
unfolding numerals_from
numerals_length numerals right = ap length right
