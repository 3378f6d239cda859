-- A form: a text with two signs that stand for numbers. Assumes nothing.
use Rattle.std.specs.Prelude.{ℕ, cond, eqb}
use mathlib.Core.List.{List, [], ◌∷◌, flat_map}
use Rattle.text_put.specs.Puts.{number_text}

-- what a byte of a form stands for: `$` for one number, `@` for another, any other byte for itself
unfoldable pub filled_byte : (one other : ℕ) → (byte : ℕ) → List ℕ
filled_byte one other byte = cond (eqb byte 36) (number_text one) (cond (eqb byte 64) (number_text other) (byte ∷ []))

-- a form with its numbers
abbrev pub filled : (one other : ℕ) → (form : List ℕ) → List ℕ
filled one other form = flat_map (filled_byte one other) form
