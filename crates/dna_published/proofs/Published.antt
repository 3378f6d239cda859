-- What the calls answer for one sequence is what its statement says, by the theorem of the sixteen steps. Assumes nothing.
use Prim.Native.Nat.{ℕ, zero, suc, ◌+◌, ◌*◌, ◌-◌}
use mathlib.Core.Path.{◌≡◌, refl, ◌∙◌, ap, ap₂}
use mathlib.Core.Bool.{Bool, true, false, cond}
use mathlib.Core.List.{List}
use native.Mathlib.Omega.{arith}
use lib.Ieee.{binary64, add}
use lib.IntN.{pos, ◌-ℤ◌}
use lib.ListN.{length}
use contract.Lifetimes.{Lfts}
use denote.Triple.Clauses.{AtExit}
use borrow.Fn.Kinds.{Dens, res_t, ended_of}
use Rattle.std.specs.Prelude.{Ok}
use Rattle.units.specs.declared.BaseEnergy.{BaseEnergy}
use Rattle.units.specs.Decimals.{minus}
use Rattle.dna_letters.specs.declared.DnaNucleotideBase.{DnaNucleotideBase}
use Rattle.dna_letters.specs.Bases.{base_at}
use Rattle.dna_steps.specs.Steps.{no_energy, dg_ds, start_hundredths, start}
use Rattle.dna_steps.specs.Published.{recorded}
use Rattle.dna_steps.proofs.Published.{as_published}
use Rattle.dna_hundredths.specs.Hundredths.{steps_hundredths, single_hundredths, end_term}
use Rattle.dna_single.specs.Single.{steps_sum, single_energy, single_verdict}
use Rattle.dna_calls.specs.Single.{string_dna_dg_ds}
use Rattle.dna_calls.specs.Hundredths.{string_dna_hundredths}
use Rattle.dna_calls.proofs.Refused.{answered}
use Rattle.dna_calls.proofs.string_dna_dg_ds.Kinds as dg-ds-kinds
use Rattle.dna_calls.proofs.string_dna_dg_ds.Reads as dg-ds
use Rattle.dna_calls.proofs.string_dna_hundredths.Kinds as hundredths-kinds
use Rattle.dna_calls.proofs.string_dna_hundredths.Reads as hundredths
use Rattle.dna_published.specs.PublishedSums.{published_dg, published_ds, ported_ds, on_record, whole_to, rounded_to, rounded, entropy, PublishedSums}

-- the code's sum, ΔG and ΔS, in the words of the statement
energy_sum : (dna : List ℕ) (n : ℕ) → (steps_sum dna n).dg ≡ rounded_to (λ a b. minus (published_dg a b) 100) dna n
unfolding steps_sum rounded_to no_energy dg_ds
energy_sum dna zero = refl
energy_sum dna (suc n) = ap₂ (add binary64) (ap (λ k. minus k 100) (as_published (base_at dna n) (base_at dna (suc n))).dg) (energy_sum dna n)

entropy_sum : (dna : List ℕ) (n : ℕ) → (steps_sum dna n).ds ≡ rounded_to (λ a b. entropy (pos (ported_ds a b))) dna n
unfolding steps_sum rounded_to no_energy dg_ds
entropy_sum dna zero = refl
entropy_sum dna (suc n) = ap (add binary64 (minus (ported_ds (base_at dna n) (base_at dna (suc n))) 10000)) (entropy_sum dna n)

-- a step that is not on record
off_record : (a b : DnaNucleotideBase) → on_record a b ≡ 0 → ported_ds a b ≡ published_ds a b
off_record a b none = (as_published a b).ds ∙ either (recorded a b) none
  where
    either : (t : Bool) → cond {A = ℕ} t 1 0 ≡ 0 → published_ds a b + cond t 9 0 ≡ published_ds a b
    either true h = absurd (omega arith)
    either false h = omega arith

-- where no step on record occurs
entropies_off_record : (dna : List ℕ) (n : ℕ) → whole_to on_record dna n ≡ 0
    → rounded_to (λ a b. entropy (pos (ported_ds a b))) dna n ≡ rounded_to (λ a b. entropy (pos (published_ds a b))) dna n
unfolding whole_to rounded_to
entropies_off_record dna zero none = refl
entropies_off_record dna (suc n) none =
    let a = base_at dna n in
    let b = base_at dna (suc n) in
    ap₂ (add binary64) (ap (λ k. entropy (pos k)) (off_record a b (omega arith))) (entropies_off_record dna n (omega arith))

-- nine for each step on record
nine_each : (t : Bool) → cond t 9 0 ≡ 9 * cond t 1 0
nine_each true = refl
nine_each false = refl

entropy_steps : (dna : List ℕ) (n : ℕ) → whole_to ported_ds dna n ≡ whole_to published_ds dna n + 9 * whole_to on_record dna n
unfolding whole_to
entropy_steps dna zero = refl
entropy_steps dna (suc n) =
    let a = base_at dna n in
    let b = base_at dna (suc n) in
    omega (arith, entropy_steps dna n, (as_published a b).ds, nine_each (recorded a b))

-- the hundredths
hundredths_sum : (dna : List ℕ) (n : ℕ) → steps_hundredths dna n ≡ whole_to published_dg dna n
unfolding steps_hundredths whole_to
hundredths_sum dna zero = refl
hundredths_sum dna (suc n) = ap₂ ◌+◌ (hundredths_sum dna n) (as_published (base_at dna n) (base_at dna (suc n))).dg

-- the definitions that the contracts answer with
by_definition : (dna : List ℕ) → PublishedSums dna (string_dna_dg_ds dna) (string_dna_hundredths dna)
unfolding start
by_definition dna =
    record {
      energy = λ e given. ap (λ x. x.dg) (answered (single_verdict dna) (single_energy dna) e given).1 ∙ ap (λ x. add binary64 x start.dg) (energy_sum dna (length dna - 1));
      entropy_as_ported = as_ported;
      entropy_off_record = λ e given none. as_ported e given ∙ ap (λ x. add binary64 x start.ds) (entropies_off_record dna (length dna - 1) none);
      entropy_steps = entropy_steps dna (length dna - 1);
      entropy_start = refl;
      in_hundredths =
          λ z given.
          (answered (single_verdict dna) (single_hundredths dna) z given).1
          ∙ ap (λ less. pos (start_hundredths + end_term (base_at dna 0) (base_at dna (length dna - 1))) -ℤ pos less) (hundredths_sum dna (length dna - 1));
    }
  where
    as_ported : (e : BaseEnergy) → string_dna_dg_ds dna ≡ Ok e → e.ds ≡ add binary64 (rounded (λ a b. entropy (pos (ported_ds a b))) dna) start.ds
    as_ported e given = ap (λ x. x.ds) (answered (single_verdict dna) (single_energy dna) e given).1 ∙ ap (λ x. add binary64 x start.ds) (entropy_sum dna (length dna - 1))

-- Of any two results that meet the contracts of `string_dna_dg_ds` and `string_dna_hundredths` on the same letters, the statement holds.
pub published_sums : (κs κt : Lfts 1) (x : Dens κs dg-ds-kinds.ps) (y : Dens κt hundredths-kinds.ps)
    (r : (res_t dg-ds-kinds.r κs).Denot) (s : (res_t hundredths-kinds.r κt).Denot)
    (at_r : AtExit (ended_of 1 dg-ds-kinds.ps dg-ds-kinds.r) κs) (at_s : AtExit (ended_of 1 hundredths-kinds.ps hundredths-kinds.r) κt)
    → dg-ds.Post κs x r at_r → hundredths.Post κt y s at_s → y.0.now ≡ x.0.now
    → PublishedSums x.0.now r s
published_sums κs κt x y r s at_r at_s p q same = rw (p, q, same) (by_definition x.0.now)
