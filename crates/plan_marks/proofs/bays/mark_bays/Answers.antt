-- `plan_marks::bays::mark_bays` meets its contract: what passed the tests is as the loop asks. Assumes nothing.
use mathlib.Core.Path.{sym, ◌∙◌}
use lib.ListN.{length}
use Rattle.bay_system.specs.System.{system_of}
use Rattle.bay_lists.specs.Lists.{constraints_of}
use Rattle.bay_given.proofs.Passed.{room, asked}
use Rattle.plan_marks.proofs.bays.mark_bays.Goals as goal

pub fill_marks-requires : goal.fill_marks-requires
fill_marks-requires c = let a = c.args in
    let s = system_of a.system.now in
    let l = constraints_of a.constraints.now in
    let p = sym c.check_given.ensures ∙ c.in_ok-check_given.was in
    record { given = asked s (length a.marks.now) l p; marks_len = room s (length a.marks.now) l p }
