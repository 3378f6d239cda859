-- `units::energy_at` meets its contract: the code's 310.15 is the printed decimal rounded once. Assumes nothing.
use mathlib.Core.Path.{refl}
use lib.Ieee.{of_bits}
use Rattle.units.specs.Decimals.{decimal}
use Rattle.units.proofs.energy_at.Goals as goal

pub returns : goal.returns
unfolding of_bits decimal
returns c = refl
