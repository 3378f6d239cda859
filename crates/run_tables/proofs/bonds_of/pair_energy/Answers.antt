-- `run_tables::bonds_of::pair_energy` meets its contract. Assumes nothing.
use native.Mathlib.Omega.{arith}
use lib.Ieee.{of_bits}
use Rattle.std.proofs.lemmas.Grind.{common_steps}
use Rattle.units.specs.Decimals.{decimal}
use Rattle.run_tables.proofs.bonds_of.pair_energy.Goals as goal

pub returns-else-s-strands : goal.returns-else-s-strands
unfolding of_bits decimal
returns-else-s-strands c = grind (arith, common_steps)
