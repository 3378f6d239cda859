-- The definitions at small texts, computed. Assumes nothing.
use Prim.Native.Nat.{ℕ, ◌^◌}
use mathlib.Core.Bool.{false}
use mathlib.Core.List.{List, [], ◌∷◌, ◌++◌}
use mathlib.Core.Path.{◌≡◌, refl}
use lib.Ieee.{nan, fin, of_bits}
use lib.IntN.{pos}
use lib.ListN.{replicate}
use Rattle.text_digits.specs.Digits.{digit, all_digits, worth, is_number, number_of, is_float, float_in, float_of}
use Rattle.std.proofs.Common.{Some, None}

-- `18446744073709551615`, and one more
most : List ℕ → List ℕ
most last = (49 ∷ 56 ∷ 52 ∷ 52 ∷ 54 ∷ 55 ∷ 52 ∷ 52 ∷ 48 ∷ 55 ∷ 51 ∷ 55 ∷ 48 ∷ 57 ∷ 53 ∷ 53 ∷ 49 ∷ 54 ∷ 49 ∷ []) ++ last

largest : number_of (2 ^ 64) (most (53 ∷ [])) ≡ Some 18446744073709551615
unfolding most digit all_digits worth is_number number_of
largest = refl

too_large : number_of (2 ^ 64) (most (54 ∷ [])) ≡ None
unfolding most digit all_digits worth is_number number_of
too_large = refl

-- `3ff0000000000000` is 1.0, and a NaN's bits are a NaN
one : float_of (51 ∷ 102 ∷ 102 ∷ replicate 13 48) ≡ Some (fin false 1 (pos 0))
unfolding digit all_digits worth is_float float_in float_of of_bits
one = refl

a_nan : float_of (55 ∷ 102 ∷ 102 ∷ replicate 13 49) ≡ Some nan
unfolding digit all_digits worth is_float float_in float_of of_bits
a_nan = refl
