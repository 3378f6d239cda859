-- `ledger_run::least::least_row` meets its contract. The invariant: the choice among the first i rows. Assumes nothing.
use mathlib.Core.Path.{◌≡◌}
use Rattle.ledger_rows.specs.Blocks.{held_at, lowest}
use Rattle.ledger_run.proofs.least.least_row.Given as goal

abbrev pub invariant-loop-i : goal.invariant-loop-i
invariant-loop-i l = (l.choice ≡ lowest (λ i. record { energy = held_at l.block i; who = i }) l.i)
