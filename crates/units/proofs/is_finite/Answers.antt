-- `units::is_finite` meets its contract: std's test of a float is the definition's. Assumes nothing.
use Rattle.std.proofs.Common.{◌≡◌, ◌∙◌, refl}
use Rattle.std.specs.Prelude.{Float}
use Rattle.std.specs.Float.{nan, inf, fin, float_is_finite}
use Rattle.units.specs.Finite.{finite}
use Rattle.units.proofs.is_finite.Goals as goal

as_defined : (x : Float) → float_is_finite x ≡ finite x
unfolding finite float_is_finite
as_defined nan = refl
as_defined (inf negative) = refl
as_defined (fin negative m e) = refl

pub returns : goal.returns
returns c = c.is_finite.ensures.value ∙ as_defined c.args.x
