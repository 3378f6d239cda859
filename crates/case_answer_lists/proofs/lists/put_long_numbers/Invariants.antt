-- `lists::put_long_numbers` meets its contract: the invariant is that what is left of the list ends the line. Assumes nothing.
use Rattle.text_put.specs.Puts.{number_text}
use Rattle.case_answer_lists.proofs.Listing.{Listing}
use Rattle.case_answer_lists.proofs.lists.put_long_numbers.Given as goal

abbrev pub invariant-loop-i : goal.invariant-loop-i
invariant-loop-i l = Listing number_text l.table l.initial.out l.initial.next l.i l.out l.next
