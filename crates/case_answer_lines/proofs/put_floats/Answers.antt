-- `case_answer_lines::put_floats` meets its contract: four texts, one after the other. Assumes nothing.
use Rattle.text_put.proofs.Putting.{then_put}
use Rattle.case_answer_lines.proofs.put_floats.Goals as goal

pub returns : goal.returns
returns c = then_put (then_put (then_put c.put_text-word.ensures c.put_float-next.ensures) c.put_text-sign.ensures) c.put_float.ensures
