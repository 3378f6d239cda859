-- `sets::empty` meets its contract: the number of no strand is 0.
-- Assumes nothing.
use mathlib.Core.Path.{sym}
use Rattle.sets.proofs.Operations.{word_none}
use Rattle.sets.proofs.empty.Goals as goal

pub returns : goal.returns
returns c = sym (word_none 64)
