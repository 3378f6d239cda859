-- The definitions at small values, computed. Assumes nothing.
use mathlib.Core.List.{[], ◌∷◌, flat_map}
use mathlib.Core.Path.{◌≡◌, refl}
use lib.Ieee.{nan, is_nan}
use lib.IntN.{negsuc}
use Rattle.text_put.specs.Words.{bytes}
use Rattle.text_put.specs.Puts.{decimal, number_text, signed_text, float_text}
use Rattle.text_put.specs.Forms.{filled_byte, filled}

zero_text : number_text 0 ≡ 48 ∷ []
unfolding decimal number_text
zero_text = refl

minus_ten : signed_text (negsuc 9) ≡ 45 ∷ 49 ∷ 48 ∷ []
unfolding decimal number_text signed_text
minus_ten = refl

nan_text : float_text nan ≡ 110 ∷ 97 ∷ 110 ∷ []
unfolding is_nan float_text
nan_text = refl

a_form : filled 7 12 (bytes "x=\"$\" y=\"@\"") ≡ bytes "x=\"7\" y=\"12\""
unfolding decimal number_text filled_byte flat_map
a_form = refl
