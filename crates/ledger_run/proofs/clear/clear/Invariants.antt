-- `ledger_run::clear::clear` meets its contract. The invariant: the first i places are cleared, and the rest is as it was. Assumes nothing.
use mathlib.Core.Path.{◌≡◌}
use lib.ListN.{replicate}
use Rattle.ledger_block.specs.Block.{over}
use Rattle.ledger_run.proofs.clear.clear.Given as goal

abbrev pub invariant-loop-i : goal.invariant-loop-i
invariant-loop-i g l = l.table ≡ over l.initial.table 0 (replicate l.i l.blank)
