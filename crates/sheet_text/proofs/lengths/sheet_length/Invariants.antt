-- `lengths::sheet_length` meets its contract: the invariant is that what is left of the sheet is still to be added. Assumes nothing.
use Rattle.bay_lists.specs.Lists.{lists}
use Rattle.sheet_text.specs.Written.{sheet_text}
use Rattle.sheet_text.proofs.Parts.{rows_from}
use Rattle.sheet_text.proofs.Sums.{Summing}
use Rattle.sheet_text.proofs.lengths.sheet_length.Given as goal

abbrev pub invariant-loop-row : goal.invariant-loop-row
invariant-loop-row l = let c = lists l.offsets l.tiles in Summing (sheet_text c l.columns 0 l.rows) (rows_from c l.columns l.rows l.row) l.total
