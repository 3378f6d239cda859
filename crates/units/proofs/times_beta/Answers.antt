-- `units::times_beta` meets its contract. Assumes nothing.

use Rattle.units.proofs.times_beta.Goals as goal

pub returns : goal.returns
returns c = rw c.rtval.ensures
