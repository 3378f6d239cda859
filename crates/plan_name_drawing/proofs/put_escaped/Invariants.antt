-- `plan_name_drawing::put_escaped` meets its contract: the invariant is that what is left of the text ends it. Assumes nothing.
use lib.ListN.{drop}
use Rattle.text_put.proofs.Putting.{Ending}
use Rattle.plan_name_drawing.specs.Escaped.{escaped}
use Rattle.plan_name_drawing.proofs.put_escaped.Given as goal

abbrev pub invariant-loop-byte : goal.invariant-loop-byte
invariant-loop-byte l = Ending l.initial.out l.at (escaped l.text) (escaped (drop l.byte-index l.text)) l.out l.next
