-- `text_decimals::ratio` meets its contract. Assumes nothing.
use Rattle.std.proofs.Common.{◌^◌, sym}
use lib.Ieee.{binary64}
use Rattle.floats.proofs.Round.{round_mirror}
use Rattle.units.specs.Decimals.{decimal}
use Rattle.text_decimals.proofs.ratio.Goals as goal

pub returns-then-negative : goal.returns-then-negative
unfolding decimal
returns-then-negative c = rw (c.if-negative.true, c.quotient.ensures) (sym (round_mirror binary64 c.args.n (10 ^ c.args.k)))

pub returns-else-negative : goal.returns-else-negative
returns-else-negative c = rw c.if-negative.false c.quotient-else-negative.ensures
