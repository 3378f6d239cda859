-- `bay_binding::is_bond` meets its contract. Assumes nothing.
use lib.Ieee.{of_bits}
use Rattle.units.specs.Decimals.{decimal}
use Rattle.bay_binding.proofs.is_bond.Goals as goal

pub returns-then-energy : goal.returns-then-energy
unfolding of_bits decimal
returns-then-energy c = rw c.if-energy.true

pub returns-else-energy : goal.returns-else-energy
unfolding of_bits decimal
returns-else-energy c = rw c.if-energy.false
