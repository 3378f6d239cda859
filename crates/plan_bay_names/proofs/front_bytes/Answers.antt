-- `plan_bay_names::front_bytes` meets its contract: the invariant is that the bytes passed and those to come are the bytes asked for. Assumes nothing.
use mathlib.Core.Path.{◌≡◌, ◌∙◌}
use native.Mathlib.Omega.{arith}
use lib.ListN.{length}
use Rattle.plan_bay_names.proofs.Fronts.{front_found, front_goes_on, front_ends}
use Rattle.plan_bay_names.proofs.front_bytes.Goals as goal

pub returns-then-left-begun : goal.returns-then-left-begun
returns-then-left-begun c = let a = c.args in
    front_found a.text.now a.count c.loop-i.left c.loop-i.i c.loop-i.invariant c.loop-i-test.true c.begins-begun.ensures c.if-left-begun.true

pub loop-i-preserved : goal.loop-i-preserved
loop-i-preserved c = let a = c.args in
    front_goes_on a.text.now a.count c.loop-i.left c.loop-i.i c.loop-i.invariant c.loop-i-test.true c.begins-begun.ensures c.if-left-begun.false

pub returns : goal.returns
returns c = let a = c.args in
    let all : length a.text.now ≡ c.loop-i.i = omega arith in
    all ∙ front_ends a.text.now a.count c.loop-i.left c.loop-i.i c.loop-i.invariant c.loop-i-test.false
