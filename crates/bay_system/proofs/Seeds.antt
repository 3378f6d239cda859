-- How the search for the first seed that does not fit goes on by one triple. Assumes nothing.
use Prim.Native.Nat.{ℕ, suc, ◌+◌, ◌≤◌, ◌<◌}
use mathlib.Core.Path.{◌≡◌, ◌∙◌, ap}
use mathlib.Core.Bool.{true, false}
use mathlib.Core.List.{List, ◌∷◌}
use native.Mathlib.Numerals.{add-one, add-two, add-three}
use native.Mathlib.Omega.{arith}
use lib.ListN.{length, get_or, drop, drop_of_length-le}
use lib.Seq.{drop-cons}
use Rattle.bay_system.specs.declared.sizes.Sizes.{Sizes}
use Rattle.bay_system.specs.System.{seed_fits, first_bad_seed}

-- what is left at a place that three numbers follow
pub three : (at : ℕ) (seeds : List ℕ) → at + 2 < length seeds → drop at seeds ≡ get_or seeds at 0 ∷ get_or seeds (at + 1) 0 ∷ get_or seeds (at + 2) 0 ∷ drop (at + 3) seeds
three at seeds h =
    drop-cons seeds at 0 (omega arith)
    ∙ ap (λ l. get_or seeds at 0 ∷ l)
    (rw (add-one at, add-two at, add-three at)
    (drop-cons seeds (suc at) 0 (omega arith) ∙ ap (λ l. get_or seeds (suc at) 0 ∷ l) (drop-cons seeds (suc (suc at)) 0 (omega arith))))

module _ (z : Sizes) (seeds : List ℕ) (at i : ℕ) where
  pub seed_passes : at + 2 < length seeds → seed_fits z (get_or seeds at 0) (get_or seeds (at + 1) 0) (get_or seeds (at + 2) 0) ≡ true
      → i + first_bad_seed z (drop at seeds) ≡ i + 1 + first_bad_seed z (drop (at + 3) seeds)
  unfolding first_bad_seed
  seed_passes h fits = rw (three at seeds h, fits) (omega arith)

  pub seed_fails : at + 2 < length seeds → seed_fits z (get_or seeds at 0) (get_or seeds (at + 1) 0) (get_or seeds (at + 2) 0) ≡ false
      → i + first_bad_seed z (drop at seeds) ≡ i
  unfolding first_bad_seed
  seed_fails h misses = rw (three at seeds h, misses) (omega arith)

  pub seeds_end : length seeds ≤ at → i + first_bad_seed z (drop at seeds) ≡ i
  unfolding first_bad_seed
  seeds_end h = rw (drop_of_length-le seeds h) (omega arith)
