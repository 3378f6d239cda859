-- The definitions at a small list and a small text, computed. Assumes nothing.
use mathlib.Core.List.{[], ◌∷◌}
use mathlib.Core.Path.{◌≡◌, refl}
use Rattle.case_text.specs.Plain.{is_plain}
use Rattle.text_put.specs.Puts.{decimal, number_text}
use Rattle.case_answer_lists.specs.Lists.{item, listed}
use Rattle.case_answer_lists.specs.Coded.{coded_byte, coded}

-- `1,20`
two_items : listed number_text 0 (1 ∷ 20 ∷ []) ≡ 49 ∷ 44 ∷ 50 ∷ 48 ∷ []
unfolding decimal number_text item listed
two_items = refl

-- `a%20`
space : coded (97 ∷ 32 ∷ []) ≡ 97 ∷ 37 ∷ 50 ∷ 48 ∷ []
unfolding is_plain coded_byte coded
space = refl
