-- `bay_legal::grid::fill_sets` meets its contract. The invariant: the sets of the bays before stand at the front, and the rest is as it was. Assumes nothing.
use mathlib.Core.Path.{◌≡◌}
use lib.ListN.{length, take, drop}
use Rattle.bay_system.specs.System.{system_of}
use Rattle.bay_legal_at.specs.Legal.{is_legal}
use Rattle.bay_lists.specs.Lists.{constraints_of}
use Rattle.bay_legal.specs.Sets.{sets_to}
use Rattle.bay_legal.proofs.grid.fill_sets.Given as goal

abbrev pub invariant-loop-bay : goal.invariant-loop-bay
invariant-loop-bay l =
    (take l.bay l.sets ≡ sets_to (is_legal (system_of l.system) (constraints_of l.constraints)) l.bay)
    × (length l.sets ≡ length l.initial.sets)
    × (drop l.bay l.sets ≡ drop l.bay l.initial.sets)
