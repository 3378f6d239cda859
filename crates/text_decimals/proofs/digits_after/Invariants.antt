-- `text_decimals::digits_after`: the digits before the place are worth so much, which is less than 10^15. Assumes nothing.
use Rattle.text_decimals.proofs.Digits.{Read}
use Rattle.text_decimals.proofs.digits_after.Given as goal

abbrev pub invariant-loop-b : goal.invariant-loop-b
invariant-loop-b l = Read l.n l.digits l.worth l.b-index
