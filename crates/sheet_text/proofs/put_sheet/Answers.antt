-- `sheet_text::put_sheet` meets its contract. Assumes nothing.
use Prim.Native.Nat.{◌+◌, ◌*◌, zero-le}
use Rattle.text_put.proofs.Putting.{ending_starts, ending_goes_on, ending_ends}
use Rattle.bay_lists.specs.Lists.{lists}
use Rattle.sheet_text.specs.Written.{row_text, sheet_text}
use Rattle.sheet_text.proofs.Parts.{rows_from, rows_all, rows_next, rows_none}
use Rattle.sheet_text.proofs.put_sheet.Goals as goal

pub loop-row-init : goal.loop-row-init
loop-row-init c = let a = c.args in
    let given = lists a.offsets.now a.tiles.now in
    rw (rows_all given a.columns a.rows) (ending_starts (sheet_text given a.columns 0 a.rows) zero-le)

pub loop-row-preserved : goal.loop-row-preserved
loop-row-preserved c = let a = c.args in
    let given = lists a.offsets.now a.tiles.now in
    let s = c.loop-row in
    ending_goes_on s.invariant (row_text given (s.row * a.columns) a.columns) (rows_from given a.columns a.rows (s.row + 1)) (rows_next given a.columns a.rows s.row c.loop-row-test.true) c.put_record-next.ensures

pub returns : goal.returns
returns c = let a = c.args in
    let s = c.loop-row in ending_ends s.invariant (rows_none (lists a.offsets.now a.tiles.now) a.columns a.rows s.row c.loop-row-test.false)
