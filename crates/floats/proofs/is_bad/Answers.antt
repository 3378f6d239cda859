-- `floats::is_bad` meets its contract: the code's constant is minus infinity. Assumes nothing.
use mathlib.Core.Path.{refl}
use lib.Ieee.{of_bits}
use Rattle.floats.proofs.is_bad.Goals as goal

pub returns : goal.returns
unfolding of_bits
returns c = refl
