-- `case_keys::matrices::put_matrices` goes through the rows, and through the cells of each. Assumes nothing.
use Rattle.std.proofs.Common.{◌≤◌, length, ◌≡◌}
use Rattle.case_keys.proofs.matrices.put_matrices.Given as goal

abbrev pub invariant-loop-i : goal.invariant-loop-i
invariant-loop-i l = (length l.out ≡ length l.initial.out) × (l.next ≤ length l.initial.out)

abbrev pub invariant-loop-j : goal.invariant-loop-j
invariant-loop-j l = (length l.out ≡ length l.initial.out) × (l.next ≤ length l.initial.out)
