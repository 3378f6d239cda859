-- `dna_hundredths::steps_hundredths` meets its contract. The invariant: the sum is that of the steps that end before place i, and small. Assumes nothing.
use Rattle.std.proofs.Common.{◌≡◌, ◌+◌, ◌-◌, refl, arith}
use Rattle.dna_hundredths.specs.Hundredths.{steps_hundredths}
use Rattle.dna_hundredths.proofs.Sums.{hundredths_more}
use Rattle.dna_hundredths.proofs.steps_hundredths.Goals as goal

pub loop-i-init : goal.loop-i-init
unfolding steps_hundredths
loop-i-init c = record { in_range = omega arith; sum = refl; small = omega arith }

pub loop-i-preserved : goal.loop-i-preserved
loop-i-preserved c = let next : c.loop-i.i + 1 - 1 ≡ c.loop-i.i = omega arith in
    record {
      in_range = omega arith;
      sum = rw (next, hundredths_more c.args.dna.now c.loop-i.i (omega arith), ← c.from.ensures, ← c.from-in-loop-i.ensures, ← c.loop-i.invariant.sum, ← c.step_hundredths-sum.ensures.0);
      small = omega (arith, c.step_hundredths-sum.ensures.1);
    }
