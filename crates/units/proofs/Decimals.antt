-- A printed decimal with a minus is the one without, negated. Assumes nothing.
use Prim.Native.Nat.{ℕ}
use mathlib.Core.Path.{◌≡◌}
use lib.Ieee.{binary64, neg}
use Rattle.floats.proofs.Round.{round_mirror}
use Rattle.units.specs.Decimals.{decimal, plus, minus}

pub minus_negates : (n d : ℕ) → minus n d ≡ neg (plus n d)
unfolding decimal
minus_negates n d = round_mirror binary64 n d
