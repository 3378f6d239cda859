-- `sheet_text::put_record` meets its contract: the invariant is that the fields that are left end the record. Assumes nothing.
use Rattle.text_put.proofs.Putting.{Ending}
use Rattle.bay_lists.specs.Lists.{constraints_of}
use Rattle.sheet_text.specs.Written.{row_text}
use Rattle.sheet_text.proofs.Parts.{fields_from}
use Rattle.sheet_text.proofs.put_record.Given as goal

abbrev pub invariant-loop-column : goal.invariant-loop-column
invariant-loop-column l =
    let c = constraints_of l.lists in Ending l.initial.text l.at (row_text c l.first l.columns) (fields_from c l.first l.columns l.column) l.text l.next
