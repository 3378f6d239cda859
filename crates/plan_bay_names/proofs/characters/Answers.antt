-- `plan_bay_names::characters` meets its contract: the invariant is what `Counted` says. Assumes nothing.
use native.Mathlib.Omega.{arith}
use lib.ListN.{get_or}
use Rattle.plan_bay_names.proofs.Counting.{begun_few, counted_starts, counted_goes_on, counted_ends}
use Rattle.plan_bay_names.proofs.characters.Goals as goal

pub loop-byte-init : goal.loop-byte-init
loop-byte-init c = counted_starts _

pub overflow_add-count : goal.overflow_add-count
overflow_add-count c = omega (arith, c.loop-byte.invariant.few, begun_few (get_or c.args.text.now c.loop-byte.byte-index 0), c.begins-count.ensures, c.loop-byte-test.true)

pub loop-byte-preserved : goal.loop-byte-preserved
loop-byte-preserved c = counted_goes_on c.args.text.now c.loop-byte.count c.loop-byte.byte-index c.loop-byte.invariant c.loop-byte-test.true c.begins-count.ensures

pub returns : goal.returns
returns c = counted_ends _ _ _ c.loop-byte.invariant c.loop-byte-test.false
