-- `sets::first` meets its contract: the zeros below the lowest one of the word lead to the first strand.
-- Assumes nothing.
use Rattle.sets.proofs.Operations.{trailing_all}
use Rattle.sets.proofs.first.Goals as goal

pub returns : goal.returns
returns c = trailing_all 64 c.args.set
