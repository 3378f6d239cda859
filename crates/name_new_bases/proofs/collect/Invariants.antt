-- `name_new_bases::collect` meets its contract. The invariant: the list holds the bases of the first i entries. Assumes nothing.
use Rattle.name_glues.specs.Names.{names_of}
use Rattle.name_new_bases.specs.Steps.{Holds}
use Rattle.name_new_bases.proofs.collect.Given as goal

abbrev pub invariant-loop-i : goal.invariant-loop-i
invariant-loop-i l = Holds (names_of l.names.names) l.i l.list.numbers l.list.count
