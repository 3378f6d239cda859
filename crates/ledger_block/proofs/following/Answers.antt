-- `ledger_block::following` meets its contract: behind the last strand comes the first. Assumes nothing.
use Rattle.ledger_block.proofs.Beside.{following_on, following_round}
use Rattle.ledger_block.proofs.following.Goals as goal

pub returns-then-v-lt-MOST_STRANDS : goal.returns-then-v-lt-MOST_STRANDS
returns-then-v-lt-MOST_STRANDS c = let a = c.args in
    following_on a.set a.u c.next-v.result c.next-v.ensures c.if-v-lt-MOST_STRANDS.true

pub returns-else-v-lt-MOST_STRANDS : goal.returns-else-v-lt-MOST_STRANDS
returns-else-v-lt-MOST_STRANDS c = let a = c.args in
    following_round a.set a.u c.next-v.result c.next.result c.next-v.ensures c.if-v-lt-MOST_STRANDS.false c.next.ensures
