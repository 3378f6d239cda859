-- `sheet_text::put_field` meets its contract: the invariant is that the numbers that are left end the field. Assumes nothing.
use lib.ListN.{drop}
use Rattle.text_put.proofs.Putting.{Ending}
use Rattle.sheet_text.specs.Written.{spaced}
use Rattle.sheet_text.proofs.put_field.Given as goal

abbrev pub invariant-loop-i : goal.invariant-loop-i
invariant-loop-i l = Ending l.initial.text l.at (spaced 0 l.list) (spaced l.i (drop l.i l.list)) l.text l.next
