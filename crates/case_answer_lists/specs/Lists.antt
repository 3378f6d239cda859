-- What the contracts cite of lists in an answer. Assumes nothing.
use Rattle.std.specs.Prelude.{ℕ, zero, suc, List, [], ◌∷◌, ◌++◌}

-- an item with a comma before it, unless it is the one at place 0
unfoldable pub item : ℕ → List ℕ → List ℕ
item zero text = text
item (suc i) text = (44 ∷ []) ++ text

-- the items of a list from place i on, each as its text
unfoldable pub listed : {A : Type 0} → (A → List ℕ) → ℕ → List A → List ℕ
unfolding item
listed text i [] = []
listed text i (x ∷ xs) = item i (text x) ++ listed text (suc i) xs
