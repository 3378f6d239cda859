-- Whether each place of a table from one on has a value, and the word that says that one has another. Assumes nothing.
use Rattle.std.specs.Prelude.{ℕ, Bool, ◌&&◌, List, Float, pos, drop}
use Rattle.std.specs.List.{list_all}
use Rattle.std.specs.Float.{binary64}
use Rattle.std.specs.Float.Ieee.{eq, div, of_int}
use Rattle.text_put.specs.Words.{bytes}

-- whether each element of a table passes a test, those before a place left out
abbrev pub all_from : {A : Type 0} → (A → Bool) → ℕ → List A → Bool
all_from same from table = list_all same (drop from table)

-- 1 divided by a float, infinite for a zero, with the zero's sign
abbrev pub inverse : Float → Float
inverse x = div binary64 (of_int binary64 (pos 1)) x

-- whether two floats are the same number, the signs of zeros told apart by their inverses; NaN is not the same as itself
abbrev pub same_float : Float → Float → Bool
same_float x y = eq x y && eq (inverse x) (inverse y)

-- what is put where a place behind what was written does not hold what it held
abbrev pub rest_text : List ℕ
rest_text = bytes " rest"
