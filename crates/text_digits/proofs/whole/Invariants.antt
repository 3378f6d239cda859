-- `text_digits::whole`: the digits before the place are worth n, and fit. Assumes nothing.
use Rattle.text_digits.proofs.Worth.{Reading}
use Rattle.text_digits.proofs.whole.Given as goal

abbrev pub invariant-loop-b : goal.invariant-loop-b
invariant-loop-b l = Reading l.base l.value l.n l.b-index
