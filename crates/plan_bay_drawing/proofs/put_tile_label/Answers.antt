-- `plan_bay_drawing::put_tile_label` meets its contract. Assumes nothing.
use borrow.Author.Tests.{eq-eqb, ne_eqb}
use Rattle.text_put.proofs.Putting.{put_as}
use Rattle.plan_bay_drawing.specs.Squares.{tile_label}
use Rattle.plan_bay_drawing.proofs.put_tile_label.Goals as goal

pub returns-then-tile-eq0 : goal.returns-then-tile-eq0
unfolding tile_label
returns-then-tile-eq0 c = put_as (rw (eq-eqb _ _ c.if-tile-eq0.true)) c.put_text.ensures

pub returns : goal.returns
unfolding tile_label
returns c = put_as (rw (c.name_of.ensures, ne_eqb _ _ c.if-tile-eq0.false)) c.put_label.ensures
