-- What the calls answer for one sequence, beside the sums of the values that SantaLucia and Hicks 2004 print. Assumes nothing.
use Rattle.std.specs.Prelude.{ℕ, zero, suc, ◌+◌, ◌*◌, ◌-◌, ◌≡◌, cond, List, Result, Ok, Float, ℤ, pos, negsuc, neg_ℤ, ◌-ℤ◌, length}
use Rattle.std.specs.Float.{binary64}
use Rattle.std.specs.Float.Ieee.{add}
use Rattle.units.specs.declared.BaseEnergy.{BaseEnergy}
use Rattle.units.specs.declared.refusal.Refusal.{Refusal}
use Rattle.units.specs.Decimals.{plus, minus}
use Rattle.dna_letters.specs.declared.DnaNucleotideBase.{DnaNucleotideBase}
use Rattle.dna_letters.specs.Bases.{base_at}
use Rattle.dna_steps.specs.Steps.{step_of}
use Rattle.dna_steps.specs.Published.{published, published_start_dg, published_start_ds, recorded}
use Rattle.dna_hundredths.specs.Hundredths.{end_term}

-- a whole number for each step
abbrev pub Value : Type 0
Value = DnaNucleotideBase → DnaNucleotideBase → ℕ

-- −ΔG in hundredths of a kcal/mol, as published
abbrev pub published_dg : Value
published_dg a b = (published a b).dg

-- −ΔS in ten-thousandths of a kcal/(mol·K), as published and as ported
abbrev pub published_ds : Value
published_ds a b = (published a b).ds

abbrev pub ported_ds : Value
ported_ds a b = (step_of a b).ds

-- 1 for a step on record (TA, GG, CC), else 0
abbrev pub on_record : Value
on_record a b = cond (recorded a b) 1 0

-- the whole sum over the first n steps, and over all
unfoldable pub whole_to : Value → List ℕ → ℕ → ℕ
whole_to value dna zero = 0
whole_to value dna (suc n) = whole_to value dna n + value (base_at dna n) (base_at dna (suc n))

abbrev pub whole : Value → List ℕ → ℕ
whole value dna = whole_to value dna (length dna - 1)

-- a sum of floats: from 0.0, left to right, the new value plus the sum, each addition rounded once
unfoldable pub rounded_to : (value : DnaNucleotideBase → DnaNucleotideBase → Float) → List ℕ → ℕ → Float
rounded_to value dna zero = plus 0 1
rounded_to value dna (suc n) = add binary64 (value (base_at dna n) (base_at dna (suc n))) (rounded_to value dna n)

abbrev pub rounded : (value : DnaNucleotideBase → DnaNucleotideBase → Float) → List ℕ → Float
rounded value dna = rounded_to value dna (length dna - 1)

-- −ΔS of the start in ten-thousandths: the paper prints ΔS −0.0057, and the Rust has +0.0057
abbrev pub start_ds_published : ℤ
start_ds_published = pos published_start_ds

abbrev pub start_ds_ported : ℤ
start_ds_ported = neg_ℤ (pos 57)

-- ΔS as a float, rounded once, of a −ΔS in ten-thousandths
abbrev pub entropy : ℤ → Float
entropy (pos n) = minus n 10000
entropy (negsuc n) = plus (suc n) 10000

-- Of a sequence, what `string_dna_dg_ds` answered for it and what `string_dna_hundredths` answered for it:
pub record PublishedSums (dna : List ℕ) (energies : Result BaseEnergy Refusal) (hundredths : Result ℤ Refusal) : Type 0 where
  -- an answered ΔG is, to the bit, the sum of the published values and then the published start
  pub energy : (e : BaseEnergy) → energies ≡ Ok e → e.dg ≡ add binary64 (rounded (λ a b. minus (published_dg a b) 100) dna) (plus published_start_dg 100)
  -- an answered ΔS is, to the bit, the sum of the ported values and then the ported start
  pub entropy_as_ported : (e : BaseEnergy) → energies ≡ Ok e → e.ds ≡ add binary64 (rounded (λ a b. entropy (pos (ported_ds a b))) dna) (entropy start_ds_ported)
  -- where no step on record occurs it is that of the published values, and then the ported start
  pub entropy_off_record : (e : BaseEnergy) → energies ≡ Ok e → whole on_record dna ≡ 0
      → e.ds ≡ add binary64 (rounded (λ a b. entropy (pos (published_ds a b))) dna) (entropy start_ds_ported)
  -- of −ΔS in ten-thousandths, the ported sum of the steps is the published one and 9 for each step on record
  pub entropy_steps : whole ported_ds dna ≡ whole published_ds dna + 9 * whole on_record dna
  -- and the start is −57 ported, +57 published
  pub entropy_start : start_ds_ported ≡ neg_ℤ start_ds_published
  -- an answer in hundredths is the published start and the end term, less the sum of the published values
  pub in_hundredths : (z : ℤ) → hundredths ≡ Ok z
      → z ≡ pos (published_start_dg + end_term (base_at dna 0) (base_at dna (length dna - 1))) -ℤ pos (whole published_dg dna)
