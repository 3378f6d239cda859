-- Squares, computed. Assumes nothing.
use mathlib.Core.List.{[], ◌∷◌, flat_map}
use mathlib.Core.Path.{◌≡◌, refl}
use Rattle.text_entries.specs.Entries.{offsets_from, are_flags}
use Rattle.name_strands.specs.Numerals.{numerals_from, numerals_text}
use Rattle.name_strands.specs.Names.{StrandNames, strand_names, names_sized, null_first, names_read}
use Rattle.text_put.specs.Words.{bytes}
use Rattle.text_put.specs.Puts.{decimal, number_text}
use Rattle.text_put.specs.Forms.{filled_byte}
use Rattle.plan_bay_names.specs.Bays.{name_of, begun, character_count}
use Rattle.plan_name_drawing.specs.Escaped.{escaped_byte}
use Rattle.plan_name_drawing.specs.Letters.{letter_size, label}
use Rattle.plan_bay_drawing.specs.Squares.{filling, border, tile_label, bay_drawing}

-- two strands: `null`, and `A`
two : StrandNames
two = strand_names (bytes "nullA") (0 ∷ 4 ∷ 5 ∷ []) (1 ∷ 1 ∷ []) numerals_text

-- a seed, and a bay that a list of 0 keeps empty
a_seed : bay_drawing two 24 64 1 2
    ≡ bytes "<g transform=\"translate(24,64)\"><rect class=\"tile seed\" width=\"72\" height=\"72\"/><text class=\"name\" x=\"36\" y=\"41\" font-size=\"16\">A</text></g>\n"
unfolding two flat_map offsets_from are_flags numerals_from names_sized null_first names_read decimal number_text filled_byte name_of begun character_count escaped_byte letter_size label filling border tile_label
a_seed = refl

kept_empty : bay_drawing two 104 64 0 3 ≡ bytes "<g transform=\"translate(104,64)\"><rect class=\"restricted\" width=\"72\" height=\"72\"/></g>\n"
unfolding flat_map decimal number_text filled_byte filling border tile_label
kept_empty = refl
