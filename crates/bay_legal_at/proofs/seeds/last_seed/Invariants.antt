-- `bay_legal_at::seeds::last_seed` meets its contract. The invariant: what is left decides, else what was found. Assumes nothing.
use Prim.Native.Nat.{◌*◌}
use mathlib.Core.Path.{◌≡◌}
use lib.ListN.{drop}
use Rattle.bay_legal_at.specs.Legal.{later, seed_at}
use Rattle.bay_legal_at.proofs.seeds.last_seed.Given as goal

abbrev pub invariant-loop-i : goal.invariant-loop-i
invariant-loop-i l = seed_at l.cols l.seeds l.bay ≡ later (seed_at l.cols (drop (3 * l.i) l.seeds) l.bay) l.found
