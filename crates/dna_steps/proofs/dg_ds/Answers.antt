-- `dna_steps::dg_ds` meets its contract: each table of the code is the printed numbers, each rounded once, which antt computes. Assumes nothing.
use mathlib.Core.Path.{ap₂}
use lib.Ieee.{Float, nan, of_bits}
use Rattle.units.specs.declared.BaseEnergy.{BaseEnergy}
use Rattle.units.specs.Decimals.{decimal, minus}
use Rattle.dna_steps.specs.Steps.{dg_ds, step_of}
use Rattle.dna_steps.proofs.StepTables.{steps, made_of_steps}
use Rattle.dna_steps.proofs.dg_ds.Goals as goal

energy : Float → Float → BaseEnergy
energy dg ds = record { dg = dg; ds = ds }

pub returns : goal.returns
unfolding of_bits decimal step_of steps dg_ds energy
returns c = let a = c.args.a in
    let b = c.args.b in
    rw c.step_place-place.ensures (ap₂ energy (made_of_steps (λ s. minus s.dg 100) a b nan) (made_of_steps (λ s. minus s.ds 10000) a b nan))
