-- `sheet_names::put_unquoted` meets its contract. The loop's invariant is `Unquoting`: what is left ends the content. Assumes nothing.
use native.Mathlib.Omega.{arith}
use lib.ListN.{drop}
use Rattle.sheet_names.proofs.Unquoting.{unquoting_starts, unquoting_goes_on, unquoting_ends, unquoting_long, step_at, step_room, step_some}
use Rattle.sheet_names.proofs.put_unquoted.Goals as goal

pub loop-passed-init : goal.loop-passed-init
loop-passed-init c = let a = c.args in unquoting_starts a.raw.now a.out.now a.at c.min-next.result (omega arith)

pub overflow_add-passed : goal.overflow_add-passed
overflow_add-passed c = let a = c.args in
    let s = c.loop-passed in
    let room = step_room a.raw.now a.out.now a.at s.out s.next s.passed s.invariant c.loop-passed-test.true c.pair_step-passed.result (step_at a.raw.now s.passed _ c.pair_step-passed.ensures) in
    omega arith

pub loop-passed-smaller : goal.loop-passed-smaller
loop-passed-smaller c = let a = c.args in
    let s = c.loop-passed in
    let some = step_some (drop s.passed a.raw.now) in
    let e = step_at a.raw.now s.passed _ c.pair_step-passed.ensures in
    omega arith

pub loop-passed-preserved : goal.loop-passed-preserved
loop-passed-preserved c = let a = c.args in
    let s = c.loop-passed in
    unquoting_goes_on a.raw.now a.out.now a.at s.out s.next s.passed s.invariant c.loop-passed-test.true c.pair_step-passed.result (step_at a.raw.now s.passed _ c.pair_step-passed.ensures) c.put_text-next.result _ c.put_text-next.ensures

pub shape_of-out : goal.shape_of-out
shape_of-out c = let a = c.args in
    let s = c.loop-passed in
    unquoting_long a.raw.now a.out.now a.at s.out s.next s.passed s.invariant

pub returns : goal.returns
returns c = let a = c.args in
    let s = c.loop-passed in
    unquoting_ends a.raw.now a.out.now a.at s.out s.next s.passed s.invariant c.loop-passed-test.false
