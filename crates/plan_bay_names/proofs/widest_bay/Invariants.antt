-- `plan_bay_names::widest_bay` meets its contract: the invariant is that the widest so far and the widest to come are the widest of all. Assumes nothing.
use Prim.Native.Nat.{max}
use mathlib.Core.Path.{◌≡◌}
use lib.ListN.{drop}
use Rattle.name_strands.specs.Names.{strand_names_of}
use Rattle.plan_bay_names.specs.Bays.{widest_bay}
use Rattle.plan_bay_names.proofs.widest_bay.Given as goal

abbrev pub invariant-loop-tile : goal.invariant-loop-tile
invariant-loop-tile l =
    max l.widest (widest_bay (strand_names_of l.names) (drop l.tile-index l.layout)) ≡ widest_bay (strand_names_of l.names) l.layout
