-- `units::rtval` meets its contract: the decimals of the code are the printed ones. Assumes nothing.
use mathlib.Core.Path.{refl}
use lib.Ieee.{of_bits, div}
use Rattle.units.specs.Decimals.{decimal}
use Rattle.units.specs.Kelvin.{gas_constant}
use Rattle.units.proofs.rtval.Goals as goal

pub returns : goal.returns
unfolding of_bits decimal div gas_constant
returns c = refl
