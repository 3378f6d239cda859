-- Escaped texts and names in squares, computed. Assumes nothing.
use mathlib.Core.List.{[], ◌∷◌, flat_map}
use mathlib.Core.Path.{◌≡◌, refl}
use Rattle.text_put.specs.Words.{bytes}
use Rattle.text_put.specs.Puts.{decimal, number_text}
use Rattle.text_put.specs.Forms.{filled_byte}
use Rattle.plan_bay_names.specs.Bays.{begun, character_count, front_bytes}
use Rattle.plan_name_drawing.specs.Escaped.{escaped_byte, escaped}
use Rattle.plan_name_drawing.specs.Letters.{letter_size, label}

signs : escaped (bytes "A&B<\"1\">\n") ≡ bytes "A&amp;B&lt;&quot;1&quot;&gt; "
unfolding flat_map escaped_byte
signs = refl

-- the bytes of `é` are passed on
an_accent : escaped (195 ∷ 169 ∷ []) ≡ 195 ∷ 169 ∷ []
unfolding flat_map escaped_byte
an_accent = refl

a_short_name : label (bytes "A&1") ≡ bytes "<text class=\"name\" x=\"36\" y=\"41\" font-size=\"16\">A&amp;1</text>"
unfolding flat_map decimal number_text filled_byte begun character_count escaped_byte letter_size label
a_short_name = refl

a_long_name : label (bytes "corner_of_north_west")
    ≡ bytes "<text class=\"name\" x=\"36\" y=\"33\" font-size=\"10\">corner_of_</text><text class=\"name\" x=\"36\" y=\"45\" font-size=\"10\">north_west</text>"
unfolding flat_map decimal number_text filled_byte begun character_count front_bytes escaped_byte letter_size label
a_long_name = refl
