-- What a library of calls replies to a line, and the line of an energy. Assumes nothing.
use Rattle.std.specs.Prelude.{ℕ, Bool, true, false, List, [], ◌∷◌, ◌++◌, Result, Ok, Err, Float}
use Rattle.units.specs.declared.refusal.Refusal.{Refusal}
use Rattle.text_put.specs.Puts.{float_text}
use Rattle.case_replies.specs.declared.Reply.{Reply}
use Rattle.case_replies.specs.declared.Reply.TheVariants.{To, Unknown}
use Rattle.case_answer_lines.specs.Lines.{refused_text}

-- `energy `
abbrev pub energy_word : List ℕ
energy_word = 101 ∷ 110 ∷ 101 ∷ 114 ∷ 103 ∷ 121 ∷ 32 ∷ []

-- `energy` and the float, or a refusal
abbrev pub energy_text : Result Float Refusal → List ℕ
energy_text (Ok x) = energy_word ++ float_text x
energy_text (Err r) = refused_text r

-- whether a library knew the line's call
abbrev pub is_known : Reply → Bool
is_known (To next) = true
is_known Unknown = false

-- how far the answer goes, 0 where there is none
abbrev pub answer_end : Reply → ℕ
answer_end (To next) = next
answer_end Unknown = 0
