-- `text_energy::put_energy` meets its contract. Assumes nothing.
use mathlib.Core.Path.{sym, ◌∙◌}
use Rattle.text_put.proofs.Putting.{put_as, then_put}
use Rattle.text_energy.proofs.Texts.{without_hundredths, with_a_minus, without_a_minus}
use Rattle.text_energy.proofs.put_energy.Goals as goal

pub returns-in-None : goal.returns-in-None
returns-in-None c = put_as (without_hundredths c.args.energy (sym c.nearest_hundredth.ensures ∙ c.in-None.is)) c.put_float.ensures

pub returns-in-Some : goal.returns-in-Some
returns-in-Some c =
    put_as (with_a_minus c.args.energy c.in-Some.h (sym c.nearest_hundredth.ensures ∙ c.in-Some.is) (sym c.is_below_zero.ensures ∙ c.if-is_below_zero.true))
    (then_put c.put_text-next.ensures c.put_pointed.ensures)

pub returns-in-Some-2 : goal.returns-in-Some-2
returns-in-Some-2 c =
    put_as (without_a_minus c.args.energy c.in-Some.h (sym c.nearest_hundredth.ensures ∙ c.in-Some.is) (sym c.is_below_zero.ensures ∙ c.if-is_below_zero.false))
    c.put_pointed-in-Some-2.ensures
