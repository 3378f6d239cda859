-- `dna_single::single_sequence_dg_ds` meets its contract. The invariant: the sum is that of the steps that end before place i. Assumes nothing.
use Rattle.std.proofs.Common.{◌≡◌, ◌+◌, ◌-◌, arith}
use Rattle.dna_single.specs.Single.{steps_sum}
use Rattle.dna_single.proofs.Sums.{steps_more}
use Rattle.dna_single.proofs.single_sequence_dg_ds.Goals as goal

pub loop-i-init : goal.loop-i-init
unfolding steps_sum
loop-i-init c = record { in_range = omega arith; sum = c.no_energy-sum.ensures }

pub loop-i-preserved : goal.loop-i-preserved
loop-i-preserved c = let next : c.loop-i.i + 1 - 1 ≡ c.loop-i.i = omega arith in
    record {
      in_range = omega arith;
      sum = rw (next, steps_more c.args.dna.now c.loop-i.i (omega arith), ← c.from.ensures, ← c.from-in-loop-i.ensures, ← c.loop-i.invariant.sum, ← c.dg_ds-step.ensures) c.add_energy-sum.ensures;
    }
