-- How the search for the last seed on a bay goes on by one triple. Assumes nothing.
use Prim.Native.Nat.{ℕ, ◌+◌, ◌*◌, ◌≤◌, ◌<◌}
use mathlib.Core.Path.{◌≡◌, refl}
use mathlib.Core.Bool.{cond}
use mathlib.Core.List.{List}
use lib.Dec.{eqb}
use lib.ListN.{length, get_or, drop, drop_of_length-le}
use Rattle.bay_system.proofs.Seeds.{three}
use Rattle.std.specs.Prelude.{Option, Some, None}
use Rattle.bay_legal_at.specs.Legal.{later, seed_at}

later_later : (a b c : Option ℕ) → later (later a b) c ≡ later a (later b c)
later_later None b c = refl
later_later (Some t) b c = refl

module _ (cols : ℕ) (seeds : List ℕ) (bay at : ℕ) (found : Option ℕ) where
  pub seed_counts : at + 2 < length seeds
      → later (seed_at cols (drop at seeds) bay) found
      ≡ later (seed_at cols (drop (at + 3) seeds) bay)
      (later (cond (eqb (get_or seeds at 0 * cols + get_or seeds (at + 1) 0) bay) (Some (get_or seeds (at + 2) 0)) None) found)
  unfolding seed_at
  seed_counts h =
      rw (three at seeds h)
      (later_later (seed_at cols (drop (at + 3) seeds) bay)
      (cond (eqb (get_or seeds at 0 * cols + get_or seeds (at + 1) 0) bay) (Some (get_or seeds (at + 2) 0)) None) found)

  pub no_seed_left : length seeds ≤ at → later (seed_at cols (drop at seeds) bay) found ≡ found
  unfolding seed_at
  no_seed_left h = rw (drop_of_length-le seeds h)
