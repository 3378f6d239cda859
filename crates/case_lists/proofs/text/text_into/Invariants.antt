-- `text::text_into` meets its contract. The loop's invariant: the signs before `at` have been read, as `Filling` says. Assumes nothing.
use Prim.Native.Nat.{◌-◌, ◌≤◌}
use lib.ListN.{length, drop}
use Rattle.case_lists.specs.Text.{signs, is_sign, byte_of}
use Rattle.case_lists.proofs.Filling.{Filling}
use Rattle.case_lists.proofs.text.text_into.Given as goal

abbrev pub invariant-loop-at : goal.invariant-loop-at
invariant-loop-at l = (l.at ≤ length l.value) × Filling is_sign byte_of (signs l.value) l.initial.out (signs (drop l.at l.value)) l.out l.n

abbrev pub decreases-loop-at : goal.decreases-loop-at
decreases-loop-at l = length l.value - l.at
