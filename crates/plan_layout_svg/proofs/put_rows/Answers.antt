-- `plan_layout_svg::put_rows` meets its contract: the invariant is that the rows that are left end the grid. Assumes nothing.
use native.Mathlib.Omega.{arith}
use Rattle.name_strands.specs.Names.{strand_names_of}
use Rattle.plan_layout_svg.proofs.Rows.{grid_starts, grid_goes_on, grid_ends}
use Rattle.plan_layout_svg.proofs.put_rows.Goals as goal

pub loop-row-init : goal.loop-row-init
loop-row-init c = let a = c.args in
    grid_starts (strand_names_of a.shown.now.names) a.shown.now.layout.now a.shown.now.marks.now a.shown.now.cols a.rows a.out.now a.at c.min-next.ensures

pub put_row-next-requires : goal.put_row-next-requires
put_row-next-requires c = (omega (arith, c.loop-row-test.true, c.requires), c.requires.1, omega (arith, c.loop-row-test.true, c.requires, c.loop-row.invariant.few))

pub overflow_add-bay : goal.overflow_add-bay
overflow_add-bay c = omega (arith, c.loop-row-test.true, c.requires, c.loop-row.invariant.few)

pub loop-row-preserved : goal.loop-row-preserved
loop-row-preserved c = let a = c.args in
    grid_goes_on (strand_names_of a.shown.now.names) a.shown.now.layout.now a.shown.now.marks.now a.shown.now.cols a.rows a.out.now a.at c.loop-row.out c.loop-row.next c.loop-row.bay c.loop-row.row c.loop-row.invariant
    c.loop-row-test.true c.requires.1 c.put_row-next.ensures

pub shape_of-out : goal.shape_of-out
shape_of-out c = c.loop-row.invariant.ending.long

pub returns : goal.returns
returns c = let a = c.args in
    grid_ends (strand_names_of a.shown.now.names) a.shown.now.layout.now a.shown.now.marks.now a.shown.now.cols a.rows a.out.now a.at c.loop-row.out c.loop-row.next c.loop-row.bay c.loop-row.row c.loop-row.invariant c.loop-row-test.false
