-- Which floats are finite. Assumes nothing.
use Rattle.std.specs.Prelude.{Bool, true, false, Float}
use Rattle.std.specs.Float.{nan, inf, fin}

-- neither a NaN nor an infinity
unfoldable pub finite : Float → Bool
finite nan = false
finite (inf negative) = false
finite (fin negative m e) = true
