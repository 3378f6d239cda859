-- Which bytes stand for themselves in a text. Assumes nothing.
use Rattle.std.specs.Prelude.{ℕ, Bool, not, ◌&&◌, eqb, leb}

-- a byte that stands for itself: it prints, and is no space, no `%` and no comma
unfoldable pub is_plain : ℕ → Bool
is_plain b = leb 33 b && leb b 126 && not (eqb b 37) && not (eqb b 44)
