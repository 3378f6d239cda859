-- `units::in_kelvin_range` meets its contract: the ends of the code are the printed numbers. Assumes nothing.
use lib.Ieee.{of_bits}
use Rattle.units.specs.Decimals.{decimal}
use Rattle.units.proofs.in_kelvin_range.Goals as goal

pub returns-then-kelvin : goal.returns-then-kelvin
unfolding of_bits decimal
returns-then-kelvin c = rw c.if-kelvin.true

pub returns-else-kelvin : goal.returns-else-kelvin
unfolding of_bits decimal
returns-else-kelvin c = rw c.if-kelvin.false
