-- `run_tables::sites::site_energy` meets its contract. Assumes nothing.
use native.Mathlib.Omega.{arith}
use lib.Ieee.{of_bits}
use Rattle.std.proofs.lemmas.Grind.{common_steps}
use Rattle.units.specs.Decimals.{decimal}
use Rattle.run_tables.proofs.sites.site_energy.Goals as goal

pub returns-else-t-system : goal.returns-else-t-system
unfolding of_bits decimal
returns-else-t-system c = grind (arith, common_steps)
