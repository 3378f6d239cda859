-- `plan_layout_text::put_spaces` meets its contract: each turn puts one space. Assumes nothing.
use Prim.Native.Nat.{◌+◌, ◌-◌}
use mathlib.Core.List.{[], ◌∷◌}
use Rattle.text_put.proofs.Putting.{starts_anywhere, ending_goes_on, ending_ends}
use Rattle.plan_layout_text.specs.Grid.{spaces}
use Rattle.plan_layout_text.proofs.Lines.{spaces_next, spaces_end}
use Rattle.plan_layout_text.proofs.put_spaces.Goals as goal

pub loop-init : goal.loop-init
loop-init c = starts_anywhere (spaces (c.args.to - c.args.from)) c.min-next.ensures

pub loop-preserved : goal.loop-preserved
loop-preserved c = let a = c.args in
    let i = c.loop.counter in
    ending_goes_on c.loop.invariant (32 ∷ []) (spaces (a.to - (i + 1))) (spaces_next i a.to c.loop-test.true) c.put_text-next.ensures

pub returns : goal.returns
returns c = ending_ends c.loop.invariant (spaces_end c.loop.counter c.args.to c.loop-test.false)
