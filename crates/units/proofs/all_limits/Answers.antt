-- `units::all_limits` meets its contract. Assumes nothing.
use mathlib.Core.Path.{refl}
use lib.Ieee.{of_bits}
use Rattle.units.specs.Decimals.{decimal}
use Rattle.units.proofs.all_limits.Goals as goal

pub returns : goal.returns
unfolding of_bits decimal
returns c = refl
