-- `text_energy::of_bits` meets its contract: by the field of the exponent. Assumes nothing.
use Prim.Native.Nat.{◌/◌, ◌%◌}
use mathlib.Core.Path.{refl}
use Rattle.text_energy.proofs.Scaling.{pattern_large, pattern_tiny, pattern_normal}
use Rattle.text_energy.proofs.of_bits.Goals as goal

pub returns-then-x-ge1075 : goal.returns-then-x-ge1075
returns-then-x-ge1075 c = let bits = c.args.bits in pattern_large bits (bits % 9223372036854775808 / 4503599627370496) refl c.if-x-ge1075.true

pub returns-then-x-eq0 : goal.returns-then-x-eq0
returns-then-x-eq0 c = let bits = c.args.bits in pattern_tiny bits (bits % 9223372036854775808 / 4503599627370496) refl c.if-x-eq0.true

pub returns : goal.returns
returns c = let bits = c.args.bits in
    rw c.scaled.ensures (pattern_normal bits (bits % 9223372036854775808 / 4503599627370496) refl c.if-x-eq0.false c.if-x-ge1075.false)
