-- `lists::list_into` meets its contract: the items before `at` have been read, as `Listing` says. Assumes nothing.
use Prim.Native.Nat.{◌+◌, ◌-◌}
use lib.ListN.{length}
use Rattle.case_lists.proofs.Filling.{Listing}
use Rattle.case_lists.proofs.lists.list_into.Given as goal

abbrev pub invariant-loop-out : goal.invariant-loop-out
invariant-loop-out g l = Listing g.T.Item.is_item g.T.Item.value_in l.value l.initial.out l.at l.out l.n

abbrev pub decreases-loop-out : goal.decreases-loop-out
decreases-loop-out g l = length l.value + 1 - l.at
