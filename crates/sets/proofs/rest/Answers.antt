-- `sets::rest` meets its contract: the word and the one below it differ from the lowest one down, so that their and lacks this one alone.
-- Assumes nothing.
use native.Mathlib.Omega.{arith}
use Rattle.sets.proofs.Taking.{rest_none, clears_lowest}
use Rattle.sets.proofs.rest.Goals as goal

pub returns-then-set-eq0 : goal.returns-then-set-eq0
returns-then-set-eq0 c = rest_none 64 c.args.set c.if-set-eq0.true

pub returns-else-set-eq0 : goal.returns-else-set-eq0
returns-else-set-eq0 c = clears_lowest 64 c.args.set c.ranges.set.fits (omega (arith, c.if-set-eq0.false))
