-- `sets::holds` meets its contract: below 64 the code reads the strand's bit, and no word has one beyond.
-- Assumes nothing.
use borrow.Author.Tests.{le-ltb}
use mathlib.Core.Path.{refl, sym, ◌∙◌}
use Rattle.sets.specs.Set.{has}
use Rattle.sets.proofs.Bits.{has_beyond}
use Rattle.sets.proofs.holds.Goals as goal

pub returns-then-t-lt64 : goal.returns-then-t-lt64
unfolding has
returns-then-t-lt64 c = refl

pub returns-else-t-lt64 : goal.returns-else-t-lt64
returns-else-t-lt64 c = le-ltb c.args.t 64 c.if-t-lt64.false ∙ sym (has_beyond c.args.set 64 c.args.t c.ranges.set.fits c.if-t-lt64.false)
