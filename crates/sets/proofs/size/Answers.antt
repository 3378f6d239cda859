-- `sets::size` meets its contract: the ones of a word are as many as its strands.
-- Assumes nothing.
use Rattle.sets.proofs.Words.{ones_all}
use Rattle.sets.proofs.size.Goals as goal

pub returns : goal.returns
returns c = ones_all c.args.set 64 c.ranges.set.fits
