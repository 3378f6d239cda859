-- The definitions at small entries, computed. Assumes nothing.
use mathlib.Core.List.{[], ◌∷◌, map}
use mathlib.Core.Path.{◌≡◌, refl}
use lib.Seq.{sets}
use Rattle.sheet_names.specs.Appended.{flag_of, ends}

-- `ab`, nothing and `c` from place 3 on: with room for all, and with room for one byte
with_room : ends 9 3 ((97 ∷ 98 ∷ []) ∷ [] ∷ (99 ∷ []) ∷ []) ≡ 5 ∷ 5 ∷ 6 ∷ []
unfolding ends
with_room = refl

cut_off : ends 4 3 ((97 ∷ 98 ∷ []) ∷ [] ∷ (99 ∷ []) ∷ []) ≡ 4 ∷ 4 ∷ 4 ∷ []
unfolding ends
cut_off = refl

flags : sets (7 ∷ 7 ∷ 7 ∷ 7 ∷ 7 ∷ []) 1 (map flag_of ((97 ∷ 98 ∷ []) ∷ [] ∷ (99 ∷ []) ∷ [])) ≡ 7 ∷ 1 ∷ 0 ∷ 1 ∷ 7 ∷ []
unfolding flag_of
flags = refl
