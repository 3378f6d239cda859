-- `dna_pair_windows::pair_sum` meets its contract. The invariant: the sum is that of the windows that end before place i. Assumes nothing.
use Rattle.std.proofs.Common.{◌≡◌, ◌-◌, ◌<◌, ◌≤◌, length, Ok}
use Rattle.dna_pair_windows.specs.Windows.{windows_sum}
use Rattle.dna_pair_windows.proofs.pair_sum.Given as goal

abbrev pub invariant-loop-i : goal.invariant-loop-i
invariant-loop-i l = record { in_range : l.i - 1 ≤ length l.a - 1; sum : windows_sum l.a l.b (l.i - 1) ≡ Ok l.sum; bad : l.sum.bad < l.i }
