-- `coded::put_coded` meets its contract: the invariant is that what is left of the text ends the line. Assumes nothing.
use lib.ListN.{drop}
use Rattle.case_answer_lists.specs.Coded.{coded}
use Rattle.text_put.proofs.Putting.{Ending}
use Rattle.case_answer_lists.proofs.coded.put_coded.Given as goal

abbrev pub invariant-loop-byte : goal.invariant-loop-byte
invariant-loop-byte l = Ending l.initial.out l.initial.next (coded l.text) (coded (drop l.byte-index l.text)) l.out l.next
