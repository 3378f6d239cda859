-- `dna_hundredths::steps_hundredths` meets its contract. The invariant: the sum is that of the steps that end before place i, and small. Assumes nothing.
use Rattle.std.proofs.Common.{◌≡◌, ◌*◌, ◌-◌, ◌≤◌, length}
use Rattle.dna_hundredths.specs.Hundredths.{steps_hundredths}
use Rattle.dna_hundredths.proofs.steps_hundredths.Given as goal

abbrev pub invariant-loop-i : goal.invariant-loop-i
invariant-loop-i l = record { in_range : l.i - 1 ≤ length l.dna - 1; sum : l.sum ≡ steps_hundredths l.dna (l.i - 1); small : l.sum ≤ 224 * (l.i - 1) }
