-- `ledger_block::put_bay` meets its contract. The invariant: the lines of the first q rows of what stays are written. Assumes nothing.
use mathlib.Core.Path.{◌≡◌}
use lib.ListN.{length}
use Rattle.ledger_row_choice.specs.Row.{strands_of}
use Rattle.ledger_block.proofs.Blocking.{Blocking}
use Rattle.ledger_block.proofs.put_bay.Given as goal

abbrev pub invariant-loop-q : goal.invariant-loop-q
invariant-loop-q l =
    (l.count ≡ length (strands_of l.bay.set)) × Blocking l.bay l.here l.bonds l.before l.initial.energies l.energies l.initial.notes l.notes l.u l.at l.q
