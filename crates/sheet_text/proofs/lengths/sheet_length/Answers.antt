-- `lengths::sheet_length` meets its contract. Assumes nothing.
use Prim.Native.Nat.{◌+◌, ◌*◌}
use Rattle.bay_lists.specs.Lists.{lists}
use Rattle.sheet_text.specs.Written.{row_text, sheet_text}
use Rattle.sheet_text.proofs.Parts.{rows_from, rows_all, rows_next, rows_none}
use Rattle.sheet_text.proofs.Sums.{summing_starts, summing_goes_on, summing_ends}
use Rattle.sheet_text.proofs.lengths.sheet_length.Goals as goal

pub loop-row-init : goal.loop-row-init
loop-row-init c = let a = c.args in
    let given = lists a.offsets.now a.tiles.now in
    rw (rows_all given a.columns a.rows) (summing_starts (sheet_text given a.columns 0 a.rows))

pub loop-row-preserved : goal.loop-row-preserved
loop-row-preserved c = let a = c.args in
    let given = lists a.offsets.now a.tiles.now in
    let s = c.loop-row in
    summing_goes_on s.invariant (row_text given (s.row * a.columns) a.columns) (rows_from given a.columns a.rows (s.row + 1)) (rows_next given a.columns a.rows s.row c.loop-row-test.true)
    c.record_length.result c.saturating_add-total.result c.record_length.ensures c.saturating_add-total.ensures

pub returns : goal.returns
returns c = let a = c.args in
    let s = c.loop-row in summing_ends s.invariant (rows_none (lists a.offsets.now a.tiles.now) a.columns a.rows s.row c.loop-row-test.false)
