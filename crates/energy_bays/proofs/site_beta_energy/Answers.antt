-- `energy_bays::site_beta_energy` meets its contract. Assumes nothing.
use native.Mathlib.Omega.{arith}
use lib.Ieee.{of_bits}
use Rattle.std.proofs.lemmas.Grind.{common_steps}
use Rattle.units.specs.Decimals.{decimal}
use Rattle.energy_bays.specs.Energies.{bay_energy}
use Rattle.energy_bays.proofs.site_beta_energy.Goals as goal

pub returns-then-strand-eq0 : goal.returns-then-strand-eq0
unfolding bay_energy of_bits decimal
returns-then-strand-eq0 c = grind (arith, common_steps)

pub returns : goal.returns
unfolding bay_energy
returns c = grind (arith, common_steps)
