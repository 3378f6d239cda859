-- `bay_lists::list_set` meets its contract. The invariant: the set is of what the first numbers name. Assumes nothing.
use mathlib.Core.Path.{◌≡◌}
use lib.ListN.{take}
use Rattle.sets.specs.Set.{word}
use Rattle.bay_lists.specs.Lists.{names}
use Rattle.bay_lists.proofs.list_set.Given as goal

abbrev pub invariant-loop-tile : goal.invariant-loop-tile
invariant-loop-tile l = l.set ≡ word (names (take l.tile-index l.tiles)) 64
