-- `ledger_way_back::member` meets its contract. The invariant: how many steps the walk has made. Assumes nothing.
use native.Mathlib.Omega.{arith}
use Rattle.units.specs.Limits.{most_strands}
use Rattle.sets.specs.Set.{has}
use Rattle.sets.proofs.Walk.{start}
use Rattle.ledger_way_back.proofs.Stepping.{stepping_small, stepping_turns, stepping_ends}
use Rattle.ledger_way_back.proofs.member.Goals as goal

pub loop-init : goal.loop-init
loop-init c = start (has c.args.set) most_strands c.next-t.result c.next-t.ensures

pub overflow_add-t : goal.overflow_add-t
overflow_add-t c = omega (arith, stepping_small c.args.set c.args.p c.requires c.loop.invariant (omega arith))

pub loop-preserved : goal.loop-preserved
loop-preserved c = stepping_turns c.args.set c.args.p c.requires c.loop.invariant (omega arith) c.next-t-in-loop.ensures

pub returns : goal.returns
returns c = stepping_ends c.args.set c.args.p c.requires c.loop.invariant (omega arith) c.loop-test.false
