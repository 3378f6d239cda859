-- `sheet_cells::check_sheet` meets its contract. The loop's invariant is `InSheet`: the records passed are the sheet's first ones, without a fault.
-- Assumes nothing.
use Rattle.sheet_cells.proofs.Sheets.{InSheet}
use Rattle.sheet_cells.proofs.check_sheet.Given as goal

abbrev pub invariant-loop-row : goal.invariant-loop-row
invariant-loop-row l = InSheet l.rows l.columns l.text l.row l.next l.count
