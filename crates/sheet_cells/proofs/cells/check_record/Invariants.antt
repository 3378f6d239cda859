-- `cells::check_record` meets its contract. The loop's invariant is `Counting`: the fields passed are the record's first ones, without a fault.
-- Assumes nothing.
use Rattle.sheet_cells.proofs.Records.{Counting}
use Rattle.sheet_cells.proofs.cells.check_record.Given as goal

abbrev pub invariant-loop-i : goal.invariant-loop-i
invariant-loop-i l = Counting l.columns l.text l.at l.next l.count l.i
