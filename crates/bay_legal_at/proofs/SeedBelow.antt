-- The seed of a bay of a system that passed its tests is a strand of it. Assumes nothing.
use Prim.Native.Nat.{ℕ, zero, suc, ◌+◌, ◌*◌, ◌/◌, ◌≤◌, ◌<◌}
use mathlib.Core.Path.{◌≡◌, refl}
use mathlib.Core.Bool.{Bool, true, false, cond, ◌&&◌}
use mathlib.Core.List.{List, [], ◌∷◌}
use native.Mathlib.Nat.{not-suc-le-zero}
use native.Mathlib.Omega.{arith}
use lib.Dec.{ltb, eqb}
use lib.ListN.{length}
use borrow.Author.Tests.{ltb-true}
use Rattle.bay_system.specs.declared.sizes.Sizes.{Sizes}
use Rattle.bay_system.specs.System.{seed_fits, first_bad_seed}
use Rattle.std.specs.Prelude.{Option, Some, None}
use Rattle.bay_legal_at.specs.Legal.{later, seed_at}
use Rattle.bay_legal_at.specs.OnGrid.{Below}

below_later : (limit : ℕ) (new old : Option ℕ) → Below limit new → Below limit old → Below limit (later new old)
below_later limit None old n o = o
below_later limit (Some t) old n o = n

below_if : (limit : ℕ) (b : Bool) (strand : ℕ) → strand < limit → Below limit (cond b (Some strand) None)
below_if limit true strand h = h
below_if limit false strand h = tt

third : (a b c : Bool) → (a && (b && c)) ≡ true → c ≡ true
third true true c e = e
third true false c e = cc
third false b c e = cc

-- either the seed fits, and one place less is left to go, or none may be left
first_of_lem : (b : Bool) (rest count : ℕ) → suc count ≤ cond b (suc rest) zero → (b ≡ true) × (count ≤ rest)
first_of_lem true rest count h = (refl, omega arith)
first_of_lem false rest count h = absurd (not-suc-le-zero h)

pub seed_below : (z : Sizes) (seeds : List ℕ) (bay : ℕ) → length seeds / 3 ≤ first_bad_seed z seeds → Below z.strands (seed_at z.cols seeds bay)
unfolding seed_at first_bad_seed
seed_below z [] bay h = tt
seed_below z (row ∷ []) bay h = tt
seed_below z (row ∷ col ∷ []) bay h = tt
seed_below z (row ∷ col ∷ strand ∷ seeds) bay h =
    let one : suc (length seeds / 3) ≤ cond (seed_fits z row col strand) (suc (first_bad_seed z seeds)) zero = omega (arith, h) in
    let both = first_of_lem (seed_fits z row col strand) (first_bad_seed z seeds) (length seeds / 3) one in
    let fits = ltb-true strand z.strands (third (ltb row z.rows) (ltb col z.cols) (ltb strand z.strands) both.0) in
    below_later z.strands (seed_at z.cols seeds bay) (cond (eqb (row * z.cols + col) bay) (Some strand) None)
    (seed_below z seeds bay both.1) (below_if z.strands (eqb (row * z.cols + col) bay) strand fits)
