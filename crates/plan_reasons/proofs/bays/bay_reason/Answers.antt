-- `plan_reasons::bays::bay_reason` meets its contract, by the bay's seed, else its list. Assumes nothing.
use Rattle.bay_system.specs.System.{system_of}
use Rattle.bay_lists.specs.Lists.{constraints_of}
use Rattle.plan_reasons.proofs.Chains.{seed_is_reason, list_is_reason}
use Rattle.plan_reasons.proofs.bays.bay_reason.Goals as goal

pub returns-in-Some : goal.returns-in-Some
returns-in-Some c = let a = c.args in
    seed_is_reason (system_of a.system.now) (constraints_of a.constraints.now) a.bay c.seed_at.ensures c.in-Some.is

pub returns-in-None : goal.returns-in-None
returns-in-None c = let a = c.args in
    list_is_reason (system_of a.system.now) (constraints_of a.constraints.now) a.bay c.seed_at.ensures c.in-None.is c.bay_list.ensures c.list_reason.ensures
