-- `case_sets::sets_asked` meets its contract: the library's answer is told, and what the table holds then. Assumes nothing.
use Rattle.bay_system.specs.System.{system_of}
use Rattle.bay_lists.specs.Lists.{constraints_of}
use Rattle.text_put.proofs.Putting.{put_as}
use Rattle.case_sets.proofs.Asking.{told}
use Rattle.case_sets.proofs.sets_asked.Goals as goal

pub returns : goal.returns
returns c = let a = c.args in
    let e = c.allowed_tiles-answer.ensures in
    put_as (told (system_of a.system.now) (constraints_of a.constraints.now) a.sets.now _ _ _ e.answer e.sets c.all_from.ensures) c.put_sets.ensures
