-- `sheet_text::put_sheet` meets its contract: the invariant is that the records that are left end the sheet. Assumes nothing.
use Rattle.text_put.proofs.Putting.{Ending}
use Rattle.bay_lists.specs.Lists.{lists}
use Rattle.sheet_text.specs.Written.{sheet_text}
use Rattle.sheet_text.proofs.Parts.{rows_from}
use Rattle.sheet_text.proofs.put_sheet.Given as goal

abbrev pub invariant-loop-row : goal.invariant-loop-row
invariant-loop-row l =
    let c = lists l.offsets l.tiles in Ending l.initial.text 0 (sheet_text c l.columns 0 l.rows) (rows_from c l.columns l.rows l.row) l.text l.next
