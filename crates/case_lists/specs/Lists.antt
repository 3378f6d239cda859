-- What the contracts cite of lists, and of what reading one writes to a lent slice. Assumes nothing.
use Rattle.std.specs.Prelude.{ℕ, Bool, true, cond, ◌&&◌, List, [], ◌∷◌, ◌++◌, leb, length, take, drop, Option, Some, None}
use Rattle.case_text.specs.Places.{parts}

-- the items of a list: none where it is empty, else its parts between commas
unfoldable pub items : List ℕ → List (List ℕ)
items [] = []
items (x ∷ xs) = parts 44 (x ∷ xs)

-- whether each item can be read
unfoldable pub all : (List ℕ → Bool) → List (List ℕ) → Bool
all ok [] = true
all ok (w ∷ ws) = ok w && all ok ws

-- the values of the items before the first one that cannot be read
unfoldable pub values : {A : Type 0} → (List ℕ → Bool) → (List ℕ → A) → List (List ℕ) → List A
values ok value [] = []
values ok value (w ∷ ws) = cond (ok w) (value w ∷ values ok value ws) []

-- the answer: how many items there are, where each can be read and all have room
unfoldable pub counted : (List ℕ → Bool) → List (List ℕ) → ℕ → Option ℕ
counted ok ws room = cond (all ok ws && leb (length ws) room) (Some (length ws)) None

-- the slice with xs, as far as they have room, in the place of its front
unfoldable pub front : {A : Type 0} → List A → List A → List A
front xs out = take (length out) xs ++ drop (length xs) out
