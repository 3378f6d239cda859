-- `ledger_row_choice::row` meets its contract. The invariant: the choice among the strands that have left, those still to come, and the row that the next one leaves. Assumes nothing.
use lib.ListN.{length}
use Rattle.ledger_row_choice.specs.Row.{strands_of}
use Rattle.ledger_row_choice.proofs.Leaving.{Leaving}
use Rattle.ledger_row_choice.proofs.row.Given as goal

abbrev pub invariant-loop-own : goal.invariant-loop-own
invariant-loop-own l = Leaving l.own l.major l.before l.leaving l.width l.q l.left l.i l.choice

abbrev pub decreases-loop-own : goal.decreases-loop-own
decreases-loop-own l = length (strands_of l.left)
