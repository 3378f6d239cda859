-- `plan_layout_text::put_layout` meets its contract: each turn puts one row. Assumes nothing.
use Prim.Native.Nat.{◌+◌, ◌-◌, ◌<◌, ◌≤◌, min}
use mathlib.Core.Path.{◌≡◌}
use native.Mathlib.Nat.{sub-zero}
use native.Mathlib.Omega.{arith}
use lib.ListN.{length, drop}
use Rattle.name_strands.specs.Names.{strand_names_of}
use Rattle.text_put.proofs.Putting.{put_as, starts_anywhere, ending_ends}
use Rattle.plan_layout_text.specs.Grid.{rows_text}
use Rattle.plan_layout_text.proofs.Lines.{rows_go_on, rows_end}
use Rattle.plan_layout_text.proofs.put_layout.Goals as goal

pub loop-init : goal.loop-init
loop-init c = let a = c.args in
    rw sub-zero (starts_anywhere (rows_text (strand_names_of a.names.now) c.widest_bay-width.result a.cols a.layout.now a.rows) c.min-next.ensures)

pub loop-preserved : goal.loop-preserved
loop-preserved c = let a = c.args in
    let left : 0 < a.rows - c.loop.counter = omega (arith, c.loop-test.true) in
    let less : a.rows - c.loop.counter - 1 ≡ a.rows - (c.loop.counter + 1) = omega arith in
    let stop : c.min-bay.result ≡ min (c.loop.bay + a.cols) (length a.layout.now) = omega (arith, c.saturating_add.ensures, c.min-bay.ensures) in
    rw less at (rows_go_on (strand_names_of a.names.now) c.widest_bay-width.result a.layout.now c.loop.bay (a.rows - c.loop.counter) a.cols c.loop.invariant
    left c.put_row-next.ensures stop)

pub returns : goal.returns
returns c = let a = c.args in
    let n = strand_names_of a.names.now in
    let none : a.rows - c.loop.counter ≤ 0 = omega (arith, c.loop-test.false) in
    put_as (rw c.widest_bay-width.ensures)
    (ending_ends c.loop.invariant (rows_end n c.widest_bay-width.result a.cols (drop c.loop.bay a.layout.now) (a.rows - c.loop.counter) none))
