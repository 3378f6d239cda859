-- `case_energy::answer_energy` meets its contract: the layout that was read is asked for. Assumes nothing.
use mathlib.Core.Path.{refl, sym, ◌∙◌}
use Rattle.text_put.proofs.Putting.{put_as}
use Rattle.bay_system.specs.System.{system_of}
use Rattle.case_energy.proofs.Reading.{asked}
use Rattle.case_energy.proofs.answer_energy.Goals as goal

pub returns : goal.returns
returns c =
    let s = system_of c.args.system.now in
    let e = c.list_field.ensures in
    put_as (asked s c.args.line.now c.in-Some.n (sym e.value ∙ c.in-Some.is) _ _ _ refl e.room_after c.front.ensures _ c.state_g.ensures) c.put_energy.ensures
