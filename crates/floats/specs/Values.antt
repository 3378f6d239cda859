-- Which floats may stand for an energy. A `Good` value is above minus infinity, and a `Bad` one is not: a NaN or minus infinity.
-- Both are the program's own test, so that each value is the one or the other by a split on a Bool. Assumes nothing.
use Rattle.std.specs.Prelude.{◌≡◌, true, false, Float}
use Rattle.std.specs.Float.{inf}
use Rattle.std.specs.Float.Ieee.{lt, is_nan}

-- not a NaN: a value that has a place in the order
abbrev pub Number : Float → Type 0
Number x = is_nan x ≡ false

abbrev pub Good : Float → Type 0
Good x = lt (inf true) x ≡ true

abbrev pub Bad : Float → Type 0
Bad x = lt (inf true) x ≡ false
