-- `dna_steps::step_hundredths` meets its contract: the table of the code is the printed hundredths. Assumes nothing.
use mathlib.Core.Path.{refl}
use Rattle.dna_steps.specs.Steps.{step_of}
use Rattle.dna_steps.proofs.StepTables.{steps, made_of_steps, step_at_most}
use Rattle.dna_steps.proofs.step_hundredths.Goals as goal

pub returns : goal.returns
unfolding step_of steps
returns c = let a = c.args.a in
    let b = c.args.b in
    rw c.step_place.ensures (rw (made_of_steps (λ s. s.dg) a b 0) (refl, step_at_most a b))
