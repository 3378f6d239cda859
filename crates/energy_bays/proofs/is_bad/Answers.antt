-- `energy_bays::is_bad` meets its contract: what is not above minus infinity is a NaN or minus infinity. Assumes nothing.
use mathlib.Core.Path.{sym, ◌∙◌}
use Rattle.energy_bays.proofs.Laws.{bad_is}
use Rattle.energy_bays.proofs.is_bad.Goals as goal

pub returns : goal.returns
returns c = c.is_bad.ensures ∙ sym (bad_is c.args.x)
