-- Names and widths at small values, computed. Assumes nothing.
use mathlib.Core.List.{[], ◌∷◌}
use mathlib.Core.Path.{◌≡◌, refl}
use Rattle.text_entries.specs.Entries.{offsets_from, are_flags}
use Rattle.name_strands.specs.Numerals.{numerals_from, numerals_text}
use Rattle.name_strands.specs.Names.{StrandNames, strand_names, names_sized, null_first, names_read}
use Rattle.plan_bay_names.specs.Bays.{name_of, bay_text, begun, character_count, front_bytes, widest_bay}

-- three strands: `null`, one without a name, and `aé`
three : StrandNames
three = strand_names (110 ∷ 117 ∷ 108 ∷ 108 ∷ 97 ∷ 195 ∷ 169 ∷ []) (0 ∷ 4 ∷ 4 ∷ 7 ∷ []) (1 ∷ 0 ∷ 1 ∷ []) numerals_text

-- tile 1 has no name, and shows its place
by_place : bay_text three 1 ≡ 48 ∷ []
unfolding three offsets_from are_flags numerals_from names_sized null_first names_read name_of bay_text
by_place = refl

-- a point, `0` and `aé`: two characters in three bytes
two_wide : widest_bay three (0 ∷ 1 ∷ 2 ∷ []) ≡ 2
unfolding three offsets_from are_flags numerals_from names_sized null_first names_read name_of bay_text begun character_count widest_bay
two_wide = refl

-- the first two characters of `aéb` have three bytes
three_bytes : front_bytes 2 (97 ∷ 195 ∷ 169 ∷ 98 ∷ []) ≡ 3
unfolding begun front_bytes
three_bytes = refl
