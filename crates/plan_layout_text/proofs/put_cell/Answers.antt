-- `plan_layout_text::put_cell` meets its contract. Assumes nothing.
use Rattle.text_put.proofs.Putting.{put_as, then_put}
use Rattle.plan_layout_text.proofs.Lines.{last_cell, wide_cell}
use Rattle.plan_layout_text.proofs.put_cell.Goals as goal

pub returns-then-left-eq0 : goal.returns-then-left-eq0
returns-then-left-eq0 c = let a = c.args in
    put_as (last_cell a.width a.left a.shown.now c.if-left-eq0.true) c.put_text-end.ensures

pub returns : goal.returns
returns c = let a = c.args in
    put_as (wide_cell a.width a.left a.shown.now c.if-left-eq0.false c.characters.ensures)
    (then_put c.put_text-end.ensures (then_put c.put_spaces-wide.ensures c.put_text.ensures))
