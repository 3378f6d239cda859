-- `plan_bay_drawing::put_bay` meets its contract. Assumes nothing.
use Rattle.text_put.proofs.Putting.{then_put}
use Rattle.plan_bay_drawing.proofs.put_bay.Goals as goal

pub returns : goal.returns
returns c = search then_put
