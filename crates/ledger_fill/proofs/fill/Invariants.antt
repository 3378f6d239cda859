-- `ledger_fill::fill` meets its contract. The invariant: the blocks of the first k bays are written. Assumes nothing.
use Rattle.ledger_fill.proofs.Filling.{Filling}
use Rattle.ledger_fill.proofs.fill.Given as goal

abbrev pub invariant-loop-k : goal.invariant-loop-k
invariant-loop-k l = Filling l.window l.sets l.bays l.bonds l.initial.energies l.energies l.initial.notes l.notes l.rows l.last l.k
