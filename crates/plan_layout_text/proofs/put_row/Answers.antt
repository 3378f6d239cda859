-- `plan_layout_text::put_row` meets its contract: each turn puts one bay. Assumes nothing.
use mathlib.Core.List.{[], ◌∷◌}
use native.Mathlib.Omega.{arith}
use lib.ListN.{drop}
use Rattle.name_strands.specs.Names.{strand_names_of}
use Rattle.text_put.proofs.Putting.{starts_anywhere, last_part}
use Rattle.plan_layout_text.specs.Grid.{row_text}
use Rattle.plan_layout_text.proofs.Lines.{row_goes_on, row_end}
use Rattle.plan_layout_text.proofs.put_row.Goals as goal

pub loop-left-init : goal.loop-left-init
loop-left-init c = let a = c.args in
    starts_anywhere (row_text (strand_names_of a.shown.now.names) a.shown.now.width (drop a.first a.shown.now.layout.now) a.shown.now.cols) c.min-next.ensures

pub loop-left-preserved : goal.loop-left-preserved
loop-left-preserved c = let a = c.args in
    row_goes_on (strand_names_of a.shown.now.names) a.shown.now.width a.shown.now.layout.now c.loop-left.bay c.loop-left.left c.loop-left.invariant
    (omega (arith, c.loop-left-test.true)) c.tile_at-tile.ensures c.put_bay-next.ensures (omega (arith, c.saturating_add.ensures, c.min-bay.ensures))

pub returns : goal.returns
returns c = let a = c.args in
    last_part c.loop-left.invariant (10 ∷ [])
    (row_end (strand_names_of a.shown.now.names) a.shown.now.width (drop c.loop-left.bay a.shown.now.layout.now) c.loop-left.left (omega (arith, c.loop-left-test.false)))
    c.put_text.ensures
