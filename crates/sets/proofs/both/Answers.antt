-- `sets::both` meets its contract: a strand is in the and of two words where it is in both.
-- Assumes nothing.
use Rattle.sets.proofs.Operations.{word_and}
use Rattle.sets.proofs.both.Goals as goal

pub returns : goal.returns
returns c = word_and 64 c.args.a c.args.b c.ranges.a.fits c.ranges.b.fits
