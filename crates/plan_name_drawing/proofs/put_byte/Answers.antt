-- `plan_name_drawing::put_byte` meets its contract: choice by choice. Assumes nothing.
use Rattle.text_put.proofs.Putting.{put_as}
use Rattle.plan_name_drawing.specs.Escaped.{escaped_byte}
use Rattle.plan_name_drawing.proofs.put_byte.Goals as goal

pub returns : goal.returns
unfolding escaped_byte
returns c = put_as (rw (c.chosen.ensures, c.chosen-quoted.ensures, c.chosen-joined.ensures, c.chosen-below.ensures, c.chosen-above.ensures)) c.put_text.ensures
