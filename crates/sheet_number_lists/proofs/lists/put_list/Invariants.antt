-- `lists::put_list` meets its contract: the invariant is that the numbers of the words that are left end the list. Assumes nothing.
use lib.ListN.{length}
use Rattle.sheet_number_lists.proofs.Turns.{Listing}
use Rattle.sheet_number_lists.proofs.lists.put_list.Given as goal

abbrev pub invariant-loop-word : goal.invariant-loop-word
invariant-loop-word l = Listing l.content l.initial.tiles l.at (length l.yielded) l.tiles l.next
