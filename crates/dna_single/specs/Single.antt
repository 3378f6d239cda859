-- One sequence with its perfect fit: the sum of its steps with the start term, and what is refused of it. Assumes nothing.
use Rattle.std.specs.Prelude.{ℕ, zero, suc, ◌-◌, List, ltb, Float, length}
use Rattle.units.specs.declared.BaseEnergy.{BaseEnergy}
use Rattle.units.specs.Refusals.{Verdict, refuse_if, ◌▷◌}
use Rattle.units.specs.declared.refusal.Refusal.TheVariants.{TooFewLetters}
use Rattle.units.specs.Kelvin.{kelvin_verdict}
use Rattle.dna_letters.specs.Bases.{base_at}
use Rattle.dna_letters.specs.Letters.{length_verdict, letters_verdict}
use Rattle.dna_steps.specs.Steps.{dg_ds, start, add_energy, no_energy}

-- the first n steps, added from 0.0 left to right, the new value plus the sum
unfoldable pub steps_sum : List ℕ → ℕ → BaseEnergy
steps_sum dna zero = no_energy
steps_sum dna (suc n) = add_energy (dg_ds (base_at dna n) (base_at dna (suc n))) (steps_sum dna n)

-- all steps, then the start term once
abbrev pub single_energy : List ℕ → BaseEnergy
single_energy dna = add_energy (steps_sum dna (length dna - 1)) start

-- 12: under 2 letters
abbrev pub short_verdict : List ℕ → Verdict
short_verdict dna = refuse_if (ltb (length dna) 2) TooFewLetters

-- within the limit: letters of the sequence with this number, then shortness
abbrev pub within_limit_verdict : ℕ → List ℕ → Verdict
within_limit_verdict sequence dna = letters_verdict sequence dna ▷ short_verdict dna

-- the limit of letters, the letters, shortness
abbrev pub sequence_verdict : ℕ → List ℕ → Verdict
sequence_verdict sequence dna = length_verdict dna ▷ within_limit_verdict sequence dna

-- a single sequence is sequence 0
abbrev pub single_verdict : List ℕ → Verdict
single_verdict dna = sequence_verdict 0 dna

-- at a temperature, which is tested first
abbrev pub single_at_verdict : List ℕ → Float → Verdict
single_at_verdict dna kelvin = kelvin_verdict kelvin ▷ single_verdict dna
