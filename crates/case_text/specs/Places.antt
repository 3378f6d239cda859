-- What the contracts cite of places in a text, and of the parts that a byte cuts it into: lines, words and items. Assumes nothing.
use Rattle.std.specs.Prelude.{ℕ, ◌+◌, ◌≤◌, min, cond, List, [], ◌∷◌, eqb, length, drop}
use Rattle.text_search.specs.Search.{index_of}

-- the first place of b at or after `from`, or the text's length where there is none
unfoldable pub place_of : ℕ → List ℕ → ℕ → ℕ
place_of b text from = min from (length text) + index_of b (drop from text)

-- r is a place from `from` to the text's end: what `&text[from..r]` asks
abbrev pub Onward : ℕ → List ℕ → ℕ → Type 0
Onward from text r = (min from (length text) ≤ r) × (r ≤ length text)

-- the parts of a list of parts with x in front of the first
unfoldable pub longer : ℕ → List (List ℕ) → List (List ℕ)
longer x [] = (x ∷ []) ∷ []
longer x (p ∷ ps) = (x ∷ p) ∷ ps

-- the parts of a text before, between and after the bytes b, one more than it has of them
unfoldable pub parts : ℕ → List ℕ → List (List ℕ)
unfolding longer
parts b [] = [] ∷ []
parts b (x ∷ xs) = cond (eqb x b) ([] ∷ parts b xs) (longer x (parts b xs))
