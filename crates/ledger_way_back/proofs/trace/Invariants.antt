-- `ledger_way_back::trace` meets its contract. The invariant: the strands from bay k on are written. Assumes nothing.
use Rattle.ledger_way_back.proofs.Tracking.{Tracking}
use Rattle.ledger_way_back.proofs.trace.Given as goal

abbrev pub invariant-loop-k : goal.invariant-loop-k
invariant-loop-k l = Tracking l.window l.sets l.notes l.initial.at.row l.order l.k l.at
