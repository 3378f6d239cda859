-- The definitions at small texts and lists, computed: what docs/CASES.md says of them. Assumes nothing.
use Prim.Native.Nat.{◌^◌}
use Rattle.std.proofs.Common.{None}
use mathlib.Core.List.{[], ◌∷◌}
use mathlib.Core.Path.{◌≡◌, refl}
use Rattle.case_text.specs.Places.{longer, parts}
use Rattle.text_digits.specs.Digits.{digit, all_digits, worth, is_number}
use Rattle.case_text.specs.Plain.{is_plain}
use Rattle.case_lists.specs.Lists.{items, all, values, counted, front}
use Rattle.case_lists.specs.Text.{signs, is_sign, byte_of}

-- `a%20` is two bytes; `%61` for `a` is refused, and nothing is written
space : values is_sign byte_of (signs (97 ∷ 37 ∷ 50 ∷ 48 ∷ [])) ≡ 97 ∷ 32 ∷ []
unfolding digit all_digits worth is_plain is_sign byte_of signs values
space = refl

one_way : counted is_sign (signs (37 ∷ 54 ∷ 49 ∷ [])) 9 ≡ None
unfolding digit all_digits worth is_plain is_sign signs all counted
one_way = refl

-- `1,2` in a slice of three, of which the last stays
two_of_three : front (values (is_number (2 ^ 32)) (worth 10 0) (items (49 ∷ 44 ∷ 50 ∷ []))) (7 ∷ 8 ∷ 9 ∷ []) ≡ 1 ∷ 2 ∷ 9 ∷ []
unfolding longer parts digit all_digits worth is_number items values front
two_of_three = refl
