-- `dna_steps::no_energy` meets its contract: the code's 0.0 is the printed 0. Assumes nothing.
use mathlib.Core.Path.{refl}
use lib.Ieee.{of_bits}
use Rattle.units.specs.Decimals.{decimal}
use Rattle.dna_steps.specs.Steps.{no_energy}
use Rattle.dna_steps.proofs.no_energy.Goals as goal

pub returns : goal.returns
unfolding of_bits decimal no_energy
returns c = refl
