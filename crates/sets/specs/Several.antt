-- A set in several words: one long number, whose lowest bits stand in the first word. Each word has k bits.
-- Assumes nothing.
use Rattle.std.specs.Prelude.{List, [], ◌∷◌, ℕ, ◌+◌, ◌*◌, ◌^◌}
use Rattle.std.specs.Int.Count.{ones}

-- the long number that the words make
unfoldable pub num : ℕ → List ℕ → ℕ
num k [] = 0
num k (w ∷ ws) = num k ws * 2 ^ k + w

-- the ones of all the words
unfoldable pub ones_of : List ℕ → ℕ
ones_of [] = 0
ones_of (w ∷ ws) = ones w + ones_of ws
