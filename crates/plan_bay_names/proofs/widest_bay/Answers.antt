-- `plan_bay_names::widest_bay` meets its contract: the invariant is that the widest so far and the widest to come are the widest of all. Assumes nothing.
use mathlib.Core.Path.{◌∙◌}
use Rattle.name_strands.specs.Names.{strand_names_of}
use Rattle.plan_bay_names.proofs.Counting.{max_is, widest_goes_on, widest_ends}
use Rattle.plan_bay_names.proofs.widest_bay.Goals as goal

pub loop-tile-preserved : goal.loop-tile-preserved
loop-tile-preserved c = let a = c.args in
    widest_goes_on (strand_names_of a.names.now) a.layout.now c.loop-tile.widest c.loop-tile.tile-index c.loop-tile.invariant c.loop-tile-test.true
    c.bay_width.ensures (c.max-widest.ensures ∙ max_is _ _)

pub returns : goal.returns
returns c = widest_ends _ _ _ _ c.loop-tile.invariant c.loop-tile-test.false
