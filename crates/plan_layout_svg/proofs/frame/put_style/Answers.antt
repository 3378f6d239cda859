-- `plan_layout_svg::frame::put_style` meets its contract. Assumes nothing.
use mathlib.Core.Path.{refl}
use Rattle.text_put.proofs.Putting.{put_as, then_put}
use Rattle.plan_layout_svg.proofs.frame.put_style.Goals as goal

pub returns : goal.returns
returns c = put_as refl (then_put (then_put (then_put c.put_text-squares.ensures c.put_text-marks.ensures) c.put_text-ground.ensures) c.put_text.ensures)
