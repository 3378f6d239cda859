-- `plan_layout_text::put_bay` meets its contract. Assumes nothing.
use Rattle.text_put.proofs.Putting.{put_as}
use Rattle.plan_bay_names.specs.Bays.{bay_text}
use Rattle.plan_layout_text.proofs.put_bay.Goals as goal

pub returns : goal.returns
unfolding bay_text
returns c = put_as (rw (c.chosen.ensures, c.name_of-name.ensures)) c.put_cell.ensures
