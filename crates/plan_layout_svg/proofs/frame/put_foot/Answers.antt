-- `plan_layout_svg::frame::put_foot` meets its contract. Assumes nothing.
use Rattle.text_put.proofs.Putting.{then_put}
use Rattle.plan_layout_svg.proofs.frame.put_foot.Goals as goal

pub returns : goal.returns
returns c = then_put (then_put c.put_form-seed.ensures c.put_text-restricted.ensures) c.put_text.ensures
