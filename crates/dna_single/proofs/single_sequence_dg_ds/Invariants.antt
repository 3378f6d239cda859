-- `dna_single::single_sequence_dg_ds` meets its contract. The invariant: the sum is that of the steps that end before place i. Assumes nothing.
use Rattle.std.proofs.Common.{◌≡◌, ◌-◌, ◌≤◌, length}
use Rattle.dna_single.specs.Single.{steps_sum}
use Rattle.dna_single.proofs.single_sequence_dg_ds.Given as goal

abbrev pub invariant-loop-i : goal.invariant-loop-i
invariant-loop-i l = record { in_range : l.i - 1 ≤ length l.dna - 1; sum : l.sum ≡ steps_sum l.dna (l.i - 1) }
