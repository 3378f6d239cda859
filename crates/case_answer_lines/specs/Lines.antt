-- What the contracts cite of answer lines: a refusal, and a case that cannot be read, as text. Assumes nothing.
use Rattle.std.specs.Prelude.{ℕ, Bool, true, false, List, [], ◌∷◌, ◌++◌}
use Rattle.units.specs.Refusals.{number_of, values_of}
use Rattle.units.specs.declared.refusal.Refusal.{Refusal}
use Rattle.text_put.specs.Puts.{number_text}

-- `unreadable`
abbrev pub unreadable_text : List ℕ
unreadable_text = 117 ∷ 110 ∷ 114 ∷ 101 ∷ 97 ∷ 100 ∷ 97 ∷ 98 ∷ 108 ∷ 101 ∷ []

-- `refused `
abbrev pub refused_word : List ℕ
refused_word = 114 ∷ 101 ∷ 102 ∷ 117 ∷ 115 ∷ 101 ∷ 100 ∷ 32 ∷ []

-- numbers, each after one space
unfoldable pub spaced : List ℕ → List ℕ
spaced [] = []
spaced (n ∷ ns) = ((32 ∷ []) ++ number_text n) ++ spaced ns

-- `refused`, the number, and the values that the rules give beside it
unfoldable pub refused_text : Refusal → List ℕ
unfolding spaced
refused_text r = (refused_word ++ number_text (number_of r)) ++ spaced (values_of r)

-- ` kept` where the lent tables are as they were, else ` changed`
abbrev pub tables_text : Bool → List ℕ
tables_text true = 32 ∷ 107 ∷ 101 ∷ 112 ∷ 116 ∷ []
tables_text false = 32 ∷ 99 ∷ 104 ∷ 97 ∷ 110 ∷ 103 ∷ 101 ∷ 100 ∷ []
