-- `sheet_lists::put_lists` meets its contract. The loop's invariant is `Filling`: what is left of the lists ends both tables. Assumes nothing.
use Rattle.sheet_lists.proofs.Filling.{Filling}
use Rattle.sheet_lists.proofs.put_lists.Given as goal

abbrev pub invariant-loop-bay : goal.invariant-loop-bay
invariant-loop-bay l = Filling l.bays l.text l.initial.tiles l.offsets l.tiles l.bay l.next l.at
