-- `lengths::record_length` meets its contract: the invariant is that what is left of the record is still to be added. Assumes nothing.
use Rattle.bay_lists.specs.Lists.{constraints_of}
use Rattle.sheet_text.specs.Written.{row_text}
use Rattle.sheet_text.proofs.Parts.{fields_from}
use Rattle.sheet_text.proofs.Sums.{Summing}
use Rattle.sheet_text.proofs.lengths.record_length.Given as goal

abbrev pub invariant-loop-column : goal.invariant-loop-column
invariant-loop-column l =
    let c = constraints_of l.lists in Summing (row_text c l.first l.columns) (fields_from c l.first l.columns l.column) l.total
