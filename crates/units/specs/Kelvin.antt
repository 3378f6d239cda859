-- The temperature: its range, and an energy at it. Assumes nothing.
use Rattle.std.specs.Prelude.{Bool, not, ◌&&◌, Float}
use Rattle.std.specs.Float.{binary64}
use Rattle.std.specs.Float.Ieee.{sub, mul, div, le}
use Rattle.units.specs.declared.BaseEnergy.{BaseEnergy}
use Rattle.units.specs.Decimals.{plus}
use Rattle.units.specs.Limits.{least_kelvin, most_kelvin}
use Rattle.units.specs.Refusals.{Verdict, refuse_if}
use Rattle.units.specs.declared.refusal.Refusal.TheVariants.{Size}

-- from 200 to 500 kelvin, the ends included
abbrev pub in_kelvin_range : Float → Bool
in_kelvin_range kelvin = le (plus least_kelvin 1) kelvin && le kelvin (plus most_kelvin 1)

abbrev pub kelvin_verdict : Float → Verdict
kelvin_verdict kelvin = refuse_if (not (in_kelvin_range kelvin)) Size

-- ΔG − (T − 310.15)·ΔS
abbrev pub energy_at : BaseEnergy → Float → Float
energy_at energy kelvin = sub binary64 energy.dg (mul binary64 (sub binary64 kelvin (plus 31015 100)) energy.ds)

-- R = 1.98720425864083 / 1000.0 in kcal/(mol·K), and R·T
unfoldable pub gas_constant : Float
gas_constant = div binary64 (plus 198720425864083 100000000000000) (plus 1000 1)

abbrev pub rtval : Float → Float
rtval kelvin = mul binary64 gas_constant kelvin

-- an energy in units of R·T
abbrev pub times_beta : (energy kelvin : Float) → Float
times_beta energy kelvin = div binary64 energy (rtval kelvin)
