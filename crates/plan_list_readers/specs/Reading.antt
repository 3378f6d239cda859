-- What a list that names no strand but 0 is. Assumes nothing.
use Rattle.std.specs.Prelude.{ℕ, Bool, true, ◌&&◌, List, [], ◌∷◌, eqb}

-- every number of a list is 0
unfoldable pub only_zeros : List ℕ → Bool
only_zeros [] = true
only_zeros (tile ∷ tiles) = eqb tile 0 && only_zeros tiles
