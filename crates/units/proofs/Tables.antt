-- A table against the printed numbers that it was made of. Assumes nothing.
use Prim.Native.Nat.{ℕ, zero, suc, ◌<◌}
use mathlib.Core.Path.{◌≡◌, refl}
use mathlib.Core.List.{List, [], ◌∷◌, map}
use native.Mathlib.Nat.{le_of_suc-le-suc, not-suc-le-zero}
use lib.ListN.{length, get_or}

-- an entry of a table made by f is f of the entry that it was made of, whatever stands for a missing one
pub made_at : {X Y : Type 0} (f : X → Y) (xs : List X) (i : ℕ) (x : X) (y : Y) → i < length xs → get_or (map f xs) i y ≡ f (get_or xs i x)
made_at f [] i x y h = absurd (not-suc-le-zero h)
made_at f (z ∷ xs) zero x y h = refl
made_at f (z ∷ xs) (suc i) x y h = made_at f xs i x y (le_of_suc-le-suc h)
