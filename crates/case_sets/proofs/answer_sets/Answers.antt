-- `case_sets::answer_sets` meets its contract: what is asked ends within the lent text. Assumes nothing.
use Rattle.case_sets.proofs.Asking.{ends_within}
use Rattle.case_sets.proofs.answer_sets.Goals as goal

pub returns : goal.returns
returns c = ends_within c.sets_asked.ensures
