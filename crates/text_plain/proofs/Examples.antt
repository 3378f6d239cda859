-- Texts and strays, computed. Assumes nothing.
use mathlib.Core.List.{[], ◌∷◌}
use mathlib.Core.Path.{◌≡◌, refl}
use Rattle.text_plain.specs.Texts.{is_between, is_alone, is_second, is_two, is_third, is_three, is_four, width_of, character_length, stray_after, first_stray, has_mark, without_mark}

-- `a,b`, carriage return, line feed
plain : first_stray (97 ∷ 44 ∷ 98 ∷ 13 ∷ 10 ∷ []) ≡ 5
unfolding is_between is_alone is_second is_two is_third is_three is_four width_of character_length stray_after first_stray
plain = refl

-- a tab between letters
tab : first_stray (97 ∷ 9 ∷ 98 ∷ []) ≡ 3
unfolding is_between is_alone is_second is_two is_third is_three is_four width_of character_length stray_after first_stray
tab = refl

-- `é`
two : first_stray (195 ∷ 169 ∷ []) ≡ 2
unfolding is_between is_alone is_second is_two is_third is_three is_four width_of character_length stray_after first_stray
two = refl

-- `€`
three : first_stray (226 ∷ 130 ∷ 172 ∷ []) ≡ 3
unfolding is_between is_alone is_second is_two is_third is_three is_four width_of character_length stray_after first_stray
three = refl

-- a smiling face, U+1F600
four : first_stray (240 ∷ 159 ∷ 152 ∷ 128 ∷ []) ≡ 4
unfolding is_between is_alone is_second is_two is_third is_three is_four width_of character_length stray_after first_stray
four = refl

-- `a€` without its last byte: the place where the character begins
cut : first_stray (97 ∷ 226 ∷ 130 ∷ []) ≡ 1
unfolding is_between is_alone is_second is_two is_third is_three is_four width_of character_length stray_after first_stray
cut = refl

-- 80 by itself
alone : first_stray (128 ∷ []) ≡ 0
unfolding is_between is_alone is_second is_two is_third is_three is_four width_of character_length stray_after first_stray
alone = refl

-- C0 80, longer than needed
overlong : first_stray (192 ∷ 128 ∷ []) ≡ 0
unfolding is_between is_alone is_second is_two is_third is_three is_four width_of character_length stray_after first_stray
overlong = refl

-- ED A0 80, a surrogate, behind `ab`
surrogate : first_stray (97 ∷ 98 ∷ 237 ∷ 160 ∷ 128 ∷ []) ≡ 2
unfolding is_between is_alone is_second is_two is_third is_three is_four width_of character_length stray_after first_stray
surrogate = refl

-- a byte 0 behind `a`
zero_byte : first_stray (97 ∷ 0 ∷ 98 ∷ []) ≡ 1
unfolding is_between is_alone is_second is_two is_third is_three is_four width_of character_length stray_after first_stray
zero_byte = refl

-- a delete character
delete : first_stray (127 ∷ []) ≡ 0
unfolding is_between is_alone is_second is_two is_third is_three is_four width_of character_length stray_after first_stray
delete = refl

-- C2 85, a control character
control : first_stray (194 ∷ 133 ∷ []) ≡ 0
unfolding is_between is_alone is_second is_two is_third is_three is_four width_of character_length stray_after first_stray
control = refl

-- F4 90 80 80, past the last character
too_far : first_stray (244 ∷ 144 ∷ 128 ∷ 128 ∷ []) ≡ 0
unfolding is_between is_alone is_second is_two is_third is_three is_four width_of character_length stray_after first_stray
too_far = refl

-- EF BF BE, which is no character
no_character : first_stray (239 ∷ 191 ∷ 190 ∷ []) ≡ 0
unfolding is_between is_alone is_second is_two is_third is_three is_four width_of character_length stray_after first_stray
no_character = refl

-- a mark and `a`, and a mark that is cut off
mark : without_mark (239 ∷ 187 ∷ 191 ∷ 97 ∷ []) ≡ 97 ∷ []
unfolding has_mark without_mark
mark = refl

cut_mark : without_mark (239 ∷ 187 ∷ []) ≡ 239 ∷ 187 ∷ []
unfolding has_mark without_mark
cut_mark = refl
