-- `text_put::put_form` meets its contract: each turn puts what a byte stands for. Assumes nothing.
use Rattle.text_put.specs.Forms.{filled_byte, filled}
use Rattle.text_put.proofs.Putting.{starts_anywhere, byte_goes_on, bytes_end}
use Rattle.text_put.proofs.put_form.Goals as goal

pub loop-byte-init : goal.loop-byte-init
loop-byte-init c = let a = c.args in starts_anywhere (filled a.one a.other a.form.now) c.min-next.ensures

pub loop-byte-preserved : goal.loop-byte-preserved
loop-byte-preserved c = let a = c.args in
    byte_goes_on (filled_byte a.one a.other) a.form.now c.loop-byte.byte-index c.loop-byte.invariant c.loop-byte-test.true c.put_sign-next.ensures

pub returns : goal.returns
returns c = let a = c.args in
    bytes_end (filled_byte a.one a.other) a.form.now c.loop-byte.byte-index c.loop-byte.invariant c.loop-byte-test.false
