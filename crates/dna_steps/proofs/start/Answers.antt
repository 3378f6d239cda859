-- `dna_steps::start` meets its contract: the decimals of the code are the printed ones, each rounded once. Assumes nothing.
use mathlib.Core.Path.{refl}
use lib.Ieee.{of_bits}
use Rattle.units.specs.Decimals.{decimal}
use Rattle.dna_steps.specs.Steps.{start as steps_start}
use Rattle.dna_steps.proofs.start.Goals as goal

pub returns : goal.returns
unfolding of_bits decimal steps_start
returns c = refl
