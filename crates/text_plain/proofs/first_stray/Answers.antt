-- `text_plain::first_stray` meets its contract: the invariant is that the characters before the place are sound. Assumes nothing.
use native.Mathlib.Omega.{arith}
use Rattle.text_plain.proofs.Strays.{walk_starts, walk_ends, walk_fits, walk_stops, walk_goes_on}
use Rattle.text_plain.proofs.first_stray.Goals as goal

pub loop-i-init : goal.loop-i-init
loop-i-init c = walk_starts _

pub returns-then-n-eq0 : goal.returns-then-n-eq0
returns-then-n-eq0 c = walk_stops c.args.text.now c.loop-i.i c.loop-i.invariant c.character_length-n.ensures c.if-n-eq0.true

pub overflow_add-i : goal.overflow_add-i
overflow_add-i c = let h = walk_fits c.args.text.now c.loop-i.i c.loop-i.invariant c.character_length-n.ensures in
    omega arith

pub loop-i-smaller : goal.loop-i-smaller
loop-i-smaller c = let h = walk_fits c.args.text.now c.loop-i.i c.loop-i.invariant c.character_length-n.ensures in
    let some = c.if-n-eq0.false in
    omega arith

pub loop-i-preserved : goal.loop-i-preserved
loop-i-preserved c = walk_goes_on c.args.text.now c.loop-i.i c.loop-i.invariant c.character_length-n.ensures c.if-n-eq0.false

pub returns : goal.returns
returns c = walk_ends c.args.text.now c.loop-i.i c.loop-i.invariant c.loop-i-test.false
