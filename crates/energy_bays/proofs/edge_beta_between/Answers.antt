-- `energy_bays::edge_beta_between` meets its contract. Assumes nothing.
use native.Mathlib.Omega.{arith}
use lib.Ieee.{of_bits}
use Rattle.std.proofs.lemmas.Grind.{common_steps}
use Rattle.units.specs.Decimals.{decimal}
use Rattle.energy_bays.specs.Energies.{edge_energy}
use Rattle.energy_bays.proofs.edge_beta_between.Goals as goal

pub returns-then-first-eq0 : goal.returns-then-first-eq0
unfolding edge_energy of_bits decimal
returns-then-first-eq0 c = grind (arith, common_steps)

pub returns-then-north_south : goal.returns-then-north_south
unfolding edge_energy
returns-then-north_south c = grind (arith, common_steps)

pub returns-else-north_south : goal.returns-else-north_south
unfolding edge_energy
returns-else-north_south c = grind (arith, common_steps)
