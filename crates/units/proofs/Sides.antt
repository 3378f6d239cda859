-- The sides of a strand are what its record was made of, in the order in which a table has them. Assumes nothing.
use Prim.Native.Nat.{ℕ}
use mathlib.Core.Path.{◌≡◌, refl}
use mathlib.Core.List.{[], ◌∷◌}
use Rattle.units.specs.Glues.{strand_glues, five_of}

pub sides_in_order : (north east south west bottom : ℕ) → five_of (strand_glues north east south west bottom) ≡ north ∷ east ∷ south ∷ west ∷ bottom ∷ []
sides_in_order north east south west bottom = refl
