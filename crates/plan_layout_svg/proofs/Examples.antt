-- A small drawing, computed. Assumes nothing.
use mathlib.Core.List.{[], ◌∷◌, ◌++◌, flat_map}
use mathlib.Core.Path.{◌≡◌, refl}
use mathlib.Core.Bool.{true}
use lib.Ieee.{binary64, round}
use Rattle.text_entries.specs.Entries.{offsets_from, are_flags}
use Rattle.name_strands.specs.Numerals.{numerals_from, numerals_text}
use Rattle.name_strands.specs.Names.{StrandNames, strand_names, names_sized, null_first, names_read}
use Rattle.text_put.specs.Words.{bytes}
use Rattle.text_put.specs.Puts.{decimal, number_text}
use Rattle.text_put.specs.Forms.{filled_byte}
use Rattle.text_energy.specs.Hundredths.{hundredths, is_small, is_negative, energy_text}
use Rattle.plan_bay_names.specs.Bays.{name_of, begun, character_count}
use Rattle.plan_name_drawing.specs.Escaped.{escaped_byte}
use Rattle.plan_name_drawing.specs.Letters.{letter_size, label}
use Rattle.plan_bay_drawing.specs.Squares.{filling, border, tile_label}
use Rattle.plan_layout_svg.specs.Drawing.{row_drawing, rows_drawing, svg_text}

-- two strands: `null`, and `A&1`
two : StrandNames
two = strand_names (bytes "nullA&1") (0 ∷ 4 ∷ 7 ∷ []) (1 ∷ 1 ∷ []) numerals_text

-- a seeded bay beside one that is kept empty, at −1.84 kcal/mol
a_seed_and_an_empty_bay : svg_text 1 2 two (1 ∷ 0 ∷ []) (2 ∷ 3 ∷ []) (round binary64 true 184 100)
    ≡ bytes "<svg xmlns=\"http://www.w3.org/2000/svg\" width=\"280\" height=\"204\" viewBox=\"0 0 280 204\">\n"
    ++ bytes "<style>\n"
    ++ bytes "text{font-family:sans-serif;fill:#1d2733}\n"
    ++ bytes ".energy{font-size:18px;font-weight:bold}\n"
    ++ bytes ".key{font-size:14px}\n"
    ++ bytes ".name{text-anchor:middle}\n"
    ++ bytes "rect{fill:#fff;stroke:#b4bcc8}\n"
    ++ bytes ".tile{fill:#e6eef8}\n"
    ++ bytes ".ground{stroke:none}\n"
    ++ bytes ".restricted{stroke:#b45309;stroke-width:2;stroke-dasharray:7 4}\n"
    ++ bytes ".seed{stroke:#1e3a6e;stroke-width:5}\n"
    ++ bytes "</style>\n"
    ++ bytes "<rect class=\"ground\" width=\"100%\" height=\"100%\"/>\n"
    ++ bytes "<text class=\"energy\" x=\"24\" y=\"40\">Energy -1.84 kcal/mol</text>\n"
    ++ bytes "<g transform=\"translate(24,64)\"><rect class=\"tile seed\" width=\"72\" height=\"72\"/><text class=\"name\" x=\"36\" y=\"41\" font-size=\"16\">A&amp;1</text></g>\n"
    ++ bytes "<g transform=\"translate(104,64)\"><rect class=\"restricted\" width=\"72\" height=\"72\"/></g>\n"
    ++ bytes "<g transform=\"translate(26,158)\">\n"
    ++ bytes "<rect class=\"seed\" width=\"20\" height=\"20\"/><text class=\"key\" x=\"30\" y=\"15\">seed</text>\n"
    ++ bytes "<rect class=\"restricted\" x=\"86\" width=\"20\" height=\"20\"/><text class=\"key\" x=\"116\" y=\"15\">restricted</text>\n"
    ++ bytes "</g>\n"
    ++ bytes "</svg>\n"
unfolding two flat_map offsets_from are_flags numerals_from names_sized null_first names_read round decimal number_text filled_byte hundredths is_small is_negative energy_text name_of begun character_count escaped_byte letter_size label filling border tile_label row_drawing rows_drawing svg_text
a_seed_and_an_empty_bay = refl
