-- How far the answered ΔG of a sequence is from what the published decimals add up to. Assumes nothing.
use Rattle.std.specs.Prelude.{ℕ, ◌^◌, ◌≡◌, List, Result, Ok}
use Rattle.floats.specs.Fractions.{Fraction, Close}
use Rattle.units.specs.declared.BaseEnergy.{BaseEnergy}
use Rattle.units.specs.declared.refusal.Refusal.{Refusal}
use Rattle.dna_steps.specs.Published.{published_start_dg}
use Rattle.dna_published.specs.PublishedSums.{published_dg, whole}

-- ΔG in kcal/mol with nothing rounded, a fraction over 100: the published hundredths of the start, less those of each step
abbrev pub exact_delta_g : List ℕ → Fraction
exact_delta_g dna = record { plus = published_start_dg; less = whole published_dg dna; per = 100 }

-- Of a sequence and what `string_dna_dg_ds` answered for it: where it is answered (it then has 2 to 256 letters), ΔG is a number,
-- and off by at most 2 ^ -35 kcal/mol, some 3·10^-11, from the exact sum.
abbrev pub DeltaGBound : List ℕ → Result BaseEnergy Refusal → Type 0
DeltaGBound dna answer = (energy : BaseEnergy) → answer ≡ Ok energy → Close 1 (2 ^ 35) energy.dg (exact_delta_g dna)
