-- `case_answer_lines::put_value` meets its contract: the number is put after the sign. Assumes nothing.
use Rattle.text_put.proofs.Putting.{then_put}
use Rattle.case_answer_lines.proofs.put_value.Goals as goal

pub returns : goal.returns
returns c = then_put c.put_text-next.ensures c.put_number.ensures
