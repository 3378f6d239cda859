-- `sets::is_empty` meets its contract: a word with no strand is 0.
-- Assumes nothing.
use Rattle.sets.proofs.Taking.{none_left}
use Rattle.sets.proofs.is_empty.Goals as goal

pub returns : goal.returns
returns c = none_left 64 c.args.set c.ranges.set.fits
