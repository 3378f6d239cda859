-- `sets::with_if` meets its contract: each arm is the set that `legal` asks for.
-- Assumes nothing.
use Rattle.sets.proofs.Build.{joined, kept}
use Rattle.sets.proofs.with_if.Goals as goal

pub returns-then-legal : goal.returns-then-legal
returns-then-legal c = let a = c.args in
    joined 64 a.set a.t c.with.result a.legal c.if-legal.true c.with.ensures

pub returns-else-legal : goal.returns-else-legal
returns-else-legal c = kept 64 c.args.set c.args.t c.args.legal c.if-legal.false c.ranges.set.fits
