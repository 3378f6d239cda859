-- `plan_name_drawing::put_line` meets its contract. Assumes nothing.
use Rattle.text_put.proofs.Putting.{then_put}
use Rattle.plan_name_drawing.proofs.put_line.Goals as goal

pub returns : goal.returns
returns c = search then_put
