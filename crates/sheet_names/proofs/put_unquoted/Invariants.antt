-- `sheet_names::put_unquoted` meets its contract. The loop's invariant is `Unquoting`: what is left ends the content. Assumes nothing.
use Prim.Native.Nat.{◌-◌}
use lib.ListN.{length}
use Rattle.sheet_names.proofs.Unquoting.{Unquoting}
use Rattle.sheet_names.proofs.put_unquoted.Given as goal

abbrev pub invariant-loop-passed : goal.invariant-loop-passed
invariant-loop-passed l = Unquoting l.raw l.initial.out l.at l.out l.next l.passed

abbrev pub decreases-loop-passed : goal.decreases-loop-passed
decreases-loop-passed l = length l.raw - l.passed
