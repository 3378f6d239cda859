-- `case_replies::put_energy` meets its contract: the float is put after its word. Assumes nothing.
use Rattle.text_put.proofs.Putting.{then_put}
use Rattle.case_replies.proofs.put_energy.Goals as goal

pub returns-in-Ok : goal.returns-in-Ok
returns-in-Ok c = rw c.in-Ok.is (then_put c.put_text-word.ensures c.put_float.ensures)
