-- How the sum over the letters grows by one step. Assumes nothing.
use Prim.Native.Nat.{ℕ, zero, suc, ◌-◌, ◌<◌}
use mathlib.Core.Path.{◌≡◌}
use mathlib.Core.List.{List}
use native.Mathlib.Numerals.{sub-one}
use native.Mathlib.Omega.{arith}
use Rattle.dna_letters.specs.Bases.{base_at}
use Rattle.dna_steps.specs.Steps.{dg_ds, add_energy}
use Rattle.dna_single.specs.Single.{steps_sum}

pub steps_more : (dna : List ℕ) (i : ℕ) → 0 < i → steps_sum dna i ≡ add_energy (dg_ds (base_at dna (i - 1)) (base_at dna i)) (steps_sum dna (i - 1))
unfolding steps_sum
steps_more dna zero h = absurd (omega arith)
steps_more dna (suc n) h = rw (sub-one (suc n))
