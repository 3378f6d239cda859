-- Where a byte stands first in a text. Assumes nothing.
use Rattle.std.specs.Prelude.{ℕ, suc, ◌+◌, Bool, true, false, List, [], ◌∷◌, Option, option_map, position, ◌==◌, eqb, slice_range}

-- the place of the first b behind a byte that is b or not
unfoldable pub index_after : Bool → ℕ → ℕ
index_after true n = 0
index_after false n = suc n

-- the place of the first b, the text's length where there is none
unfoldable pub index_of : ℕ → List ℕ → ℕ
unfolding index_after
index_of b [] = 0
index_of b (x ∷ xs) = index_after (eqb x b) (index_of b xs)

-- the place of the first b in the part of a text from one place to another, if it stands there
abbrev pub place_in : ℕ → (from to : ℕ) → List ℕ → Option ℕ
place_in b from to xs = option_map (λ i. from + i) (position (λ x. x == b) (slice_range xs from to))
