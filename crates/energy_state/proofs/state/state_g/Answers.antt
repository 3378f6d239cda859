-- `energy_state::state::state_g` meets its contract: where the tests pass, the sum is answered. Assumes nothing.
use mathlib.Core.Path.{◌∙◌, sym}
use Rattle.bay_system.specs.System.{system_of}
use Rattle.energy_state.proofs.Answering.{answered_so}
use Rattle.energy_state.proofs.state.state_g.Goals as goal

pub returns : goal.returns
returns c =
    answered_so (system_of c.args.system.now) c.args.layout.now (sym c.check_state.ensures ∙ c.in_ok-check_state.was)
    c.state_beta_energy.ensures c.answered.ensures
