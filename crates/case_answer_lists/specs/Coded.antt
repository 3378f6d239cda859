-- What the contracts cite of a text that is written as a value. Assumes nothing.
use Rattle.std.specs.Prelude.{ℕ, cond, List, [], ◌∷◌, ◌++◌}
use Rattle.io.specs.Digits.{last_digits}
use Rattle.case_text.specs.Plain.{is_plain}

-- a byte by itself, or `%` and its two hexadecimal digits
unfoldable pub coded_byte : ℕ → List ℕ
coded_byte b = cond (is_plain b) (b ∷ []) ((37 ∷ []) ++ last_digits 16 2 b)

-- each byte of a text in its turn
unfoldable pub coded : List ℕ → List ℕ
unfolding coded_byte
coded [] = []
coded (b ∷ bs) = coded_byte b ++ coded bs
