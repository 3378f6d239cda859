-- `case_sequences::is_on_one` meets its contract: three names, one after the other. Assumes nothing.

use Rattle.case_sequences.proofs.is_on_one.Goals as goal

pub returns : goal.returns
returns c = rw (c.same.ensures, c.same-2.ensures, c.same-3.ensures)
