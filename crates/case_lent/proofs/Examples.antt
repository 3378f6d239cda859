-- Floats that are the same and floats that are not. Assumes nothing.
use mathlib.Core.Bool.{true, false}
use mathlib.Core.Path.{◌≡◌, refl}
use lib.Ieee.{fin, round, div, eq, of_int}
use lib.IntN.{pos}
use Rattle.case_lent.specs.Kept.{same_float}

zeros_differ : same_float (fin false 0 (pos 0)) (fin true 0 (pos 0)) ≡ false
unfolding of_int round div eq
zeros_differ = refl

seven : same_float (fin false 7 (pos 0)) (fin false 7 (pos 0)) ≡ true
unfolding of_int round div eq
seven = refl
