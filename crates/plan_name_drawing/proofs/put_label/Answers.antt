-- `plan_name_drawing::put_label` meets its contract: by the count of characters. Assumes nothing.
use Rattle.text_put.proofs.Putting.{put_as}
use Rattle.plan_name_drawing.proofs.Sizes.{on_one_line, on_two_lines}
use Rattle.plan_name_drawing.proofs.put_label.Goals as goal

pub returns-then-count-lt11 : goal.returns-then-count-lt11
returns-then-count-lt11 c = let a = c.args in
    put_as (on_one_line a.name.now c.characters-count.ensures c.if-count-lt11.true c.letter_size-size.ensures) c.put_line.ensures

pub returns : goal.returns
returns c = let a = c.args in
    put_as (on_two_lines a.name.now c.characters-count.ensures c.if-count-lt11.false) c.put_two_lines.ensures
