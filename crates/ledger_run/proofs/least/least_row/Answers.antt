-- `ledger_run::least::least_row` meets its contract. The invariant: the choice among the first i rows. Assumes nothing.
use Rattle.ledger_run.proofs.Lowest.{least_starts, least_turns}
use Rattle.ledger_run.proofs.least.least_row.Goals as goal

pub loop-i-init : goal.loop-i-init
loop-i-init c = least_starts c.args.block.now c.requires

pub loop-i-preserved : goal.loop-i-preserved
loop-i-preserved c = least_turns c.args.block.now c.loop-i.i c.loop-i.choice c.lower-choice.result c.loop-i-test.true c.loop-i.invariant c.lower-choice.ensures
