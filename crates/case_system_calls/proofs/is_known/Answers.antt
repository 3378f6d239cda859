-- `case_system_calls::is_known` meets its contract: four names, one after the other. Assumes nothing.

use Rattle.case_system_calls.proofs.is_known.Goals as goal

pub returns : goal.returns
returns c = rw (c.same.ensures, c.same-2.ensures, c.same-3.ensures, c.same-4.ensures)
