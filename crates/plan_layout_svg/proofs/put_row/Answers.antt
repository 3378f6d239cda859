-- `plan_layout_svg::put_row` meets its contract: the invariant is that the bays that are left end the row. Assumes nothing.
use mathlib.Core.Path.{refl}
use Rattle.name_strands.specs.Names.{strand_names_of}
use Rattle.plan_layout_svg.proofs.Rows.{row_starts, row_goes_on, row_ends}
use Rattle.plan_layout_svg.proofs.put_row.Goals as goal

pub loop-col-init : goal.loop-col-init
loop-col-init c = let a = c.args in
    row_starts (strand_names_of a.shown.now.names) a.shown.now.layout.now a.shown.now.marks.now a.row a.first a.shown.now.cols a.out.now a.at c.min-next.ensures

pub loop-col-preserved : goal.loop-col-preserved
loop-col-preserved c = let a = c.args in
    row_goes_on (strand_names_of a.shown.now.names) a.shown.now.layout.now a.shown.now.marks.now a.row a.first a.shown.now.cols a.out.now a.at c.loop-col.out c.loop-col.next c.loop-col.col c.loop-col.invariant
    c.loop-col-test.true refl refl c.tile_at.ensures c.mark_at.ensures c.put_bay-next.ensures

pub shape_of-out : goal.shape_of-out
shape_of-out c = c.loop-col.invariant.ending.long

pub returns : goal.returns
returns c = let a = c.args in
    row_ends (strand_names_of a.shown.now.names) a.shown.now.layout.now a.shown.now.marks.now a.row a.first a.shown.now.cols a.out.now a.at c.loop-col.out c.loop-col.next c.loop-col.col c.loop-col.invariant c.loop-col-test.false
