-- Laws of a refusal's line: the values one after the other. Assumes nothing.
use Prim.Native.Nat.{ℕ}
use mathlib.Core.List.{List, [], ◌∷◌, ◌++◌, append-nil}
use mathlib.Core.Path.{◌≡◌}
use Rattle.units.specs.Refusals.{number_of, values_of}
use Rattle.units.specs.declared.refusal.Refusal.{Refusal}
use Rattle.text_put.specs.Puts.{number_text}
use Rattle.case_answer_lines.specs.Lines.{refused_word, spaced, refused_text}

module _ (r : Refusal) (n : ℕ) (is : n ≡ number_of r) where
  pub no_values : values_of r ≡ [] → refused_word ++ number_text n ≡ refused_text r
  unfolding refused_text spaced
  no_values e = rw (is, e, append-nil (refused_word ++ number_text (number_of r)))

  pub one_value : (a : ℕ) → values_of r ≡ a ∷ [] → (refused_word ++ number_text n) ++ ((32 ∷ []) ++ number_text a) ≡ refused_text r
  unfolding refused_text spaced
  one_value a e = rw (is, e, append-nil ((32 ∷ []) ++ number_text a))

  pub two_values : (a b : ℕ) → values_of r ≡ a ∷ b ∷ []
      → (refused_word ++ number_text n) ++ (((32 ∷ []) ++ number_text a) ++ ((32 ∷ []) ++ number_text b)) ≡ refused_text r
  unfolding refused_text spaced
  two_values a b e = rw (is, e, append-nil ((32 ∷ []) ++ number_text b))
