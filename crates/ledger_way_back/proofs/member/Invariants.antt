-- `ledger_way_back::member` meets its contract. The invariant: how many steps the walk has made. Assumes nothing.
use Rattle.units.specs.Limits.{most_strands}
use Rattle.sets.specs.Set.{has}
use Rattle.sets.proofs.Walk.{Counted}
use Rattle.ledger_way_back.proofs.member.Given as goal

abbrev pub invariant-loop : goal.invariant-loop
invariant-loop l = Counted (has l.set) most_strands l.counter l.t
