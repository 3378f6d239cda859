-- `plan_bay_drawing::put_square` meets its contract: four texts, of which two are chosen. Assumes nothing.
use Rattle.text_put.proofs.Putting.{put_as, then_put}
use Rattle.plan_bay_drawing.specs.Squares.{filling, border}
use Rattle.plan_bay_drawing.proofs.put_square.Goals as goal

pub returns : goal.returns
unfolding filling border
returns c = let filled = put_as c.chosen.ensures c.put_text-edge.ensures in
    then_put (then_put (then_put c.put_form-fill.ensures filled) (put_as (rw (c.chosen-2.ensures, c.chosen-asked.ensures)) c.put_text-size.ensures)) c.put_text.ensures
