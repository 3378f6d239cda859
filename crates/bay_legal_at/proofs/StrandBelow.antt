-- A strand that is legal at a bay is a strand of the system. Assumes nothing.
use Prim.Native.Nat.{ℕ, ◌<◌}
use mathlib.Core.Path.{◌≡◌, refl}
use mathlib.Core.Bool.{Bool, true, false, ◌&&◌}
use borrow.Author.Tests.{ltb-true}
use Rattle.bay_system.specs.System.{System}
use Rattle.bay_lists.specs.Lists.{Constraints}
use Rattle.bay_legal_at.specs.Legal.{is_legal}

first : (a b c : Bool) → ((a && b) && c) ≡ true → a ≡ true
first true b c e = refl
first false b c e = e

pub strand_below : (s : System) (c : Constraints) (bay strand : ℕ) → is_legal s c bay strand ≡ true → strand < s.sizes.strands
strand_below s c bay strand e = ltb-true strand s.sizes.strands (first _ _ _ e)
