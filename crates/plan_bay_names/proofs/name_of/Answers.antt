-- `plan_bay_names::name_of` meets its contract. Assumes nothing.
use Rattle.plan_bay_names.specs.Bays.{name_of}
use borrow.Author.Rules.{rules}
use Rattle.plan_bay_names.proofs.name_of.Goals as goal

pub returns : goal.returns
unfolding name_of
returns c = search rules
