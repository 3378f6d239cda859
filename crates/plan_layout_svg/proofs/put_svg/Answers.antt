-- `plan_layout_svg::put_svg` meets its contract. Assumes nothing.
use Rattle.name_strands.specs.Names.{strand_names_of}
use Rattle.text_put.proofs.Putting.{put_as, then_put}
use Rattle.plan_layout_svg.specs.Drawing.{rows_drawing}
use Rattle.plan_layout_svg.proofs.Whole.{small, drawn, not_drawn}
use Rattle.plan_layout_svg.proofs.put_svg.Goals as goal

pub returns-then-not-has_room : goal.returns-then-not-has_room
returns-then-not-has_room c = let a = c.args in
    put_as (not_drawn a.rows a.cols c.has_room.ensures (strand_names_of a.names.now) a.layout.now a.marks.now a.energy c.if-not-has_room.true-raw) c.put_text.ensures

pub put_rows-end-requires : goal.put_rows-end-requires
put_rows-end-requires c = let a = c.args in small a.rows a.cols c.has_room.ensures c.if-not-has_room.false-raw

pub returns : goal.returns
returns c = let a = c.args in
    let n = strand_names_of a.names.now in
    let rows = rows_drawing n a.cols 0 a.layout.now a.marks.now a.rows in
    put_as (drawn a.rows a.cols c.has_room.ensures n a.layout.now a.marks.now a.energy c.if-not-has_room.false-raw c.across.ensures)
    (then_put (then_put {b = rows} c.put_head-first.ensures c.put_rows-end.ensures) c.put_foot.ensures)
