-- What the scanner's own functions find on the way to a field. Assumes nothing.
use Rattle.std.specs.Prelude.{ℕ, cond, List, [], ◌∷◌, eqb}

-- how many bytes a turn within quotes passes: two quotes side by side, one byte that is no quote, or none where the quote that closes or the end is
unfoldable pub quoted_step : List ℕ → ℕ
quoted_step [] = 0
quoted_step (a ∷ []) = cond (eqb a 34) 0 1
quoted_step (a ∷ b ∷ t) = cond (eqb a 34) (cond (eqb b 34) 2 0) 1
