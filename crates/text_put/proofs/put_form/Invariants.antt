-- `text_put::put_form`: what is left of the form ends it. Assumes nothing.
use lib.ListN.{drop}
use Rattle.text_put.specs.Forms.{filled}
use Rattle.text_put.proofs.Putting.{Ending}
use Rattle.text_put.proofs.put_form.Given as goal

abbrev pub invariant-loop-byte : goal.invariant-loop-byte
invariant-loop-byte l = Ending l.initial.out l.at (filled l.one l.other l.form) (filled l.one l.other (drop l.byte-index l.form)) l.out l.next
