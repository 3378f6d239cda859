-- `bay_glues::log_of` meets its contract: the constant is the NaN. Assumes nothing.
use lib.Ieee.{of_bits}
use Rattle.bay_glues.proofs.log_of.Goals as goal

pub returns : goal.returns
unfolding of_bits
returns c = c.at_or.ensures
