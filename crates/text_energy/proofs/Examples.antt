-- Energies as text, computed. Assumes nothing.
use mathlib.Core.List.{[], ◌∷◌, map}
use mathlib.Core.Path.{◌≡◌, refl}
use lib.Ieee.{binary64, round}
use Rattle.text_put.specs.Puts.{decimal, number_text}
use mathlib.Core.Bool.{true, false}
use Rattle.text_energy.specs.Hundredths.{hundredths, is_small, is_negative, energy_text}

-- −1.84, 12.5, 0, −0.001, 0.005 and 99.999: `-1.84`, `12.50`, `0.00`, `0.00`, `0.01`, `100.00`
shown : map energy_text (round binary64 true 184 100 ∷ round binary64 false 125 10 ∷ round binary64 false 0 1 ∷ round binary64 true 1 1000 ∷ round binary64 false 5 1000 ∷ round binary64 false 99999 1000 ∷ [])
    ≡ (45 ∷ 49 ∷ 46 ∷ 56 ∷ 52 ∷ []) ∷ (49 ∷ 50 ∷ 46 ∷ 53 ∷ 48 ∷ []) ∷ (48 ∷ 46 ∷ 48 ∷ 48 ∷ []) ∷ (48 ∷ 46 ∷ 48 ∷ 48 ∷ []) ∷ (48 ∷ 46 ∷ 48 ∷ 49 ∷ []) ∷ (49 ∷ 48 ∷ 48 ∷ 46 ∷ 48 ∷ 48 ∷ []) ∷ []
unfolding round decimal number_text hundredths is_small is_negative energy_text
shown = refl
