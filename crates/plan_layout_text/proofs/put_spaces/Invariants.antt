-- `plan_layout_text::put_spaces`: the spaces that are left end the text. Assumes nothing.
use Prim.Native.Nat.{◌-◌}
use Rattle.text_put.proofs.Putting.{Ending}
use Rattle.plan_layout_text.specs.Grid.{spaces}
use Rattle.plan_layout_text.proofs.put_spaces.Given as goal

abbrev pub invariant-loop : goal.invariant-loop
invariant-loop l = Ending l.initial.out l.at (spaces (l.to - l.from)) (spaces (l.to - l.counter)) l.out l.next
