-- The definitions at small values, computed: what docs/CASES.md says of refusals in answers. Assumes nothing.
use mathlib.Core.List.{[], ◌∷◌, ◌++◌}
use mathlib.Core.Path.{◌≡◌, refl}
use Rattle.units.specs.declared.refusal.Refusal.TheVariants.{Letter, SequenceLength}
use Rattle.text_put.specs.Puts.{decimal, number_text}
use Rattle.case_answer_lines.specs.Lines.{refused_word, spaced, refused_text}

-- `refused 11 0 3`, and `refused 13`
both_values : refused_text (Letter 0 3) ≡ refused_word ++ (49 ∷ 49 ∷ 32 ∷ 48 ∷ 32 ∷ 51 ∷ [])
unfolding decimal number_text spaced refused_text
both_values = refl

no_values : refused_text SequenceLength ≡ refused_word ++ (49 ∷ 51 ∷ [])
unfolding decimal number_text spaced refused_text
no_values = refl
