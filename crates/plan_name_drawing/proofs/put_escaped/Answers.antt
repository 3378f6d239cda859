-- `plan_name_drawing::put_escaped` meets its contract: the invariant is that what is left of the text ends it. Assumes nothing.
use Rattle.text_put.proofs.Putting.{starts_anywhere, byte_goes_on, bytes_end}
use Rattle.plan_name_drawing.specs.Escaped.{escaped_byte, escaped}
use Rattle.plan_name_drawing.proofs.put_escaped.Goals as goal

pub loop-byte-init : goal.loop-byte-init
loop-byte-init c = starts_anywhere (escaped c.args.text.now) c.min-next.ensures

pub loop-byte-preserved : goal.loop-byte-preserved
loop-byte-preserved c = byte_goes_on escaped_byte c.args.text.now c.loop-byte.byte-index c.loop-byte.invariant c.loop-byte-test.true c.put_byte-next.ensures

pub shape_of-out : goal.shape_of-out
shape_of-out c = c.loop-byte.invariant.long

pub returns : goal.returns
returns c = bytes_end escaped_byte c.args.text.now c.loop-byte.byte-index c.loop-byte.invariant c.loop-byte-test.false
