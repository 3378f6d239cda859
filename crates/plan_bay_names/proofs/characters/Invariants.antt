-- `plan_bay_names::characters` meets its contract: the invariant is what `Counted` says. Assumes nothing.
use Rattle.plan_bay_names.proofs.Counting.{Counted}
use Rattle.plan_bay_names.proofs.characters.Given as goal

abbrev pub invariant-loop-byte : goal.invariant-loop-byte
invariant-loop-byte l = Counted l.text l.count l.byte-index
