-- `ledger_block::put_line` meets its contract. The invariant: the rows of the strands that were taken are written. Assumes nothing.
use lib.ListN.{length, get_or}
use Rattle.ledger_row_choice.specs.Row.{strands_of, own_row}
use Rattle.ledger_block.specs.Block.{part, own_of}
use Rattle.ledger_block.proofs.Lining.{Lining}
use Rattle.ledger_block.proofs.put_line.Given as goal

abbrev pub invariant-loop-bay : goal.invariant-loop-bay
invariant-loop-bay l =
    Lining l.bay.set l.at (λ p. own_row (own_of l.bay l.here l.bonds.side l.u (get_or (strands_of l.bay.set) p 0)) l.bonds.major (part l.before l.initial.energies) l.bay.leaving l.bay.width l.q) l.initial.energies l.energies l.initial.notes l.notes l.left l.j

abbrev pub decreases-loop-bay : goal.decreases-loop-bay
decreases-loop-bay l = length (strands_of l.left)
