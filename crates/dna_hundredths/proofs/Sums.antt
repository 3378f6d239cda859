-- How the sum of the hundredths grows by one step. Assumes nothing.
use Prim.Native.Nat.{ℕ, zero, suc, ◌+◌, ◌-◌, ◌<◌}
use mathlib.Core.Path.{◌≡◌}
use mathlib.Core.List.{List}
use native.Mathlib.Numerals.{sub-one}
use native.Mathlib.Omega.{arith}
use Rattle.dna_letters.specs.Bases.{base_at}
use Rattle.dna_steps.specs.Steps.{step_of}
use Rattle.dna_hundredths.specs.Hundredths.{steps_hundredths}

pub hundredths_more : (dna : List ℕ) (i : ℕ) → 0 < i → steps_hundredths dna i ≡ steps_hundredths dna (i - 1) + (step_of (base_at dna (i - 1)) (base_at dna i)).dg
unfolding steps_hundredths
hundredths_more dna zero h = absurd (omega arith)
hundredths_more dna (suc n) h = rw (sub-one (suc n))
