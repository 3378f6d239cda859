-- The number in an answer's numbers is the one that the verdict has. Assumes nothing.
use mathlib.Core.Path.{◌≡◌, refl}
use lib.Ieee.{Float}
use Rattle.std.specs.Prelude.{Ok, Err}
use Rattle.units.specs.Refusals.{Verdict, answer, number_in}
use Rattle.run_export.specs.Numbers.{numbers}

pub number_read : (v : Verdict) (energy : Float) → (numbers (answer v energy)).number ≡ number_in v
number_read (Ok tt) energy = refl
number_read (Err r) energy = refl
