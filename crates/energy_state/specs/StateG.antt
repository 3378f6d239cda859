-- The energy of a layout in kcal/mol, and what is refused of it: 1 to 4 as of every system, then 5, 6 and 10. Assumes nothing.
use Rattle.std.specs.Prelude.{ℕ, ◌*◌, not, List, eqb, ltb, Float, length, Result}
use Rattle.std.specs.Float.{binary64}
use Rattle.std.specs.Float.Ieee.{mul}
use Rattle.units.specs.declared.refusal.Refusal.{Refusal}
use Rattle.units.specs.declared.refusal.Refusal.TheVariants.{Shape, Strand, BadSum}
use Rattle.units.specs.Kelvin.{rtval}
use Rattle.units.specs.Places.{place_verdict}
use Rattle.units.specs.Refusals.{Verdict, refuse_if, ◌▷◌, answer}
use Rattle.bay_system.specs.declared.sizes.Sizes.{Sizes}
use Rattle.bay_system.specs.System.{System, system_verdict}
use Rattle.energy_bays.specs.Energies.{is_bad}
use Rattle.energy_listing_sum.specs.Listing.{listing_sum}

-- 5: the layout has the wrong length
abbrev pub shape_verdict : Sizes → (layout : List ℕ) → Verdict
shape_verdict z layout = refuse_if (not (eqb (length layout) (z.rows * z.cols))) Shape

-- 6, with the first bay row by row: a strand is not below the count
abbrev pub strands_verdict : Sizes → (layout : List ℕ) → Verdict
strands_verdict z layout = place_verdict Strand 0 (λ strand. ltb strand z.strands) layout

-- 10: the sum is a NaN or minus infinity
abbrev pub energy_verdict : (sum : Float) → Verdict
energy_verdict sum = refuse_if (is_bad sum) BadSum

-- what is refused before anything is added
abbrev pub layout_verdict : System → (layout : List ℕ) → Verdict
layout_verdict s layout = system_verdict s ▷ shape_verdict s.sizes layout ▷ strands_verdict s.sizes layout

-- 1 to 4, then 5, 6 and 10
abbrev pub state_verdict : System → (layout : List ℕ) → Verdict
state_verdict s layout = layout_verdict s layout ▷ energy_verdict (listing_sum s layout)

-- a sum in units of R·T in kcal/mol: the sum times (R·T)
abbrev pub in_kcal : (sum kelvin : Float) → Float
in_kcal sum kelvin = mul binary64 sum (rtval kelvin)

-- the layout's energy, or the refusal
abbrev pub state_g : System → (layout : List ℕ) → Result Float Refusal
state_g s layout = answer (state_verdict s layout) (in_kcal (listing_sum s layout) s.sizes.kelvin)
