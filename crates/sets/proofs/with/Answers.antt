-- `sets::with` meets its contract: the strands of the set or of `only(t)`, which are those of the set and t.
-- Assumes nothing.
use mathlib.Core.Path.{ap, ◌∙◌}
use lib.Bits.{bit_or}
use Rattle.sets.proofs.Build.{or_only}
use Rattle.sets.proofs.with.Goals as goal

pub returns : goal.returns
returns c = ap (bit_or c.args.set) c.only.ensures ∙ or_only 64 c.args.set c.args.t c.ranges.set.fits
