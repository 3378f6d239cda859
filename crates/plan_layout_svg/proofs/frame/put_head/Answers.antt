-- `plan_layout_svg::frame::put_head` meets its contract. Assumes nothing.
use Rattle.text_put.proofs.Putting.{then_put}
use Rattle.plan_layout_svg.proofs.frame.put_head.Goals as goal

pub returns : goal.returns
returns c = then_put (then_put (then_put (then_put c.put_form-look.ensures c.put_style-title.ensures) c.put_text-number.ensures) c.put_energy-end.ensures) c.put_text.ensures
