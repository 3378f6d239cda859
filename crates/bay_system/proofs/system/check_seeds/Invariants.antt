-- `bay_system::system::check_seeds` meets its contract. The invariant: the first is found by going on from seed i. Assumes nothing.
use Rattle.std.proofs.Common.{◌≡◌, ◌+◌, ◌*◌, drop}
use Rattle.bay_system.specs.System.{first_bad_seed}
use Rattle.bay_system.proofs.system.check_seeds.Given as goal

abbrev pub invariant-loop-i : goal.invariant-loop-i
invariant-loop-i l = first_bad_seed l.z l.seeds ≡ l.i + first_bad_seed l.z (drop (3 * l.i) l.seeds)
