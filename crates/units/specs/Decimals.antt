-- Printed decimals as floats: the fraction that is printed, rounded once to an f64. Assumes nothing.
use Rattle.std.specs.Prelude.{ℕ, Bool, false, true, Float}
use Rattle.std.specs.Float.{binary64}
use Rattle.std.specs.Float.Ieee.{round}

-- n / d, with a minus in front where `negative` is true
unfoldable pub decimal : (negative : Bool) → (n d : ℕ) → Float
unfolding round
decimal negative n d = round binary64 negative n d

-- n / d and −n / d
abbrev pub plus : (n d : ℕ) → Float
plus n d = decimal false n d

abbrev pub minus : (n d : ℕ) → Float
minus n d = decimal true n d
