-- From the bonds that the code asks for to the energies of bays and of neighbours, and what is no energy. Assumes nothing.
use mathlib.Core.Path.{◌≡◌, refl}
use mathlib.Core.Bool.{true, false, not}
use lib.Ieee.{Float, nan, inf, fin, lt}
use Rattle.energy_bays.specs.Energies.{is_bad}

-- no energy is what is not above minus infinity
pub bad_is : (x : Float) → is_bad x ≡ not (lt (inf true) x)
unfolding is_bad lt
bad_is nan = refl
bad_is (inf true) = refl
bad_is (inf false) = refl
bad_is (fin negative m e) = refl
