-- What a system that passed its tests is like: lengths, glue numbers below the count, seeds on the grid. Assumes nothing.
use Prim.Native.Nat.{ℕ, ◌/◌, ◌≤◌, ◌<◌}
use mathlib.Core.Path.{◌≡◌}
use mathlib.Core.Bool.{Bool}
use mathlib.Core.List.{List}
use lib.Dec.{ltb}
use lib.ListN.{length, get_or}
use borrow.Author.Tests.{ltb-true, ltb-false}
use Rattle.units.specs.declared.refusal.Refusal.{Refusal}
use Rattle.units.specs.declared.refusal.Refusal.TheVariants.{Glue}
use Rattle.units.specs.Places.{first_failing, place_verdict}
use Rattle.units.specs.Refusals.{passes, ◌▷◌}
use Rattle.units.proofs.Places.{none_fails}
use Rattle.units.proofs.Verdicts.{no_fault, first_passes, rest_passes}
use Rattle.bay_table_checks.specs.Tables.{glues_verdict, energies_verdict}
use Rattle.bay_system.specs.System.{System, first_bad_seed, sizes_verdict, seeds_verdict, system_verdict}
use Rattle.bay_system.proofs.Ranges.{Shaped, shaped}

pub record Fine (s : System) : Type 0 where
  pub shape : Shaped s
  pub strand_glues : (i : ℕ) → i < length s.strand_glues → get_or s.strand_glues i 0 < s.sizes.glues
  pub scaffold : (i : ℕ) → i < length s.scaffold → get_or s.scaffold i 0 < s.sizes.glues
  pub seeds : length s.seeds / 3 ≤ first_bad_seed s.sizes s.seeds

-- a list that no refusal names a place of has every number below the limit
pub all_below : (refusal : ℕ → Refusal) (from limit : ℕ) (xs : List ℕ) → place_verdict refusal from (λ g. ltb g limit) xs ≡ passes → (i : ℕ) → i < length xs → get_or xs i 0 < limit
all_below refusal from limit xs e i h =
    let test : ℕ → Bool = λ g. ltb g limit in
    ltb-true (get_or xs i 0) limit
    (none_fails test xs 0 i (ltb-false (first_failing test xs) (length xs) (no_fault (ltb (first_failing test xs) (length xs)) _ e)) h)

pub fine : (s : System) → system_verdict s ≡ passes → Fine s
fine s e =
    let glues = glues_verdict s.sizes.glues s.strand_glues s.scaffold in
    let energies = energies_verdict s.delta_g s.entropy s.logs in
    let seeds = seeds_verdict s.sizes s.seeds in
    let test : ℕ → Bool = λ g. ltb g s.sizes.glues in
    let first = place_verdict Glue 0 test s.strand_glues in
    let second = place_verdict Glue (length s.strand_glues) test s.scaffold in
    let past_sizes = rest_passes (sizes_verdict s) (glues ▷ energies ▷ seeds) e in
    let g = first_passes glues (energies ▷ seeds) past_sizes in
    let last = rest_passes energies seeds (rest_passes glues (energies ▷ seeds) past_sizes) in
    record {
      shape = shaped s (first_passes (sizes_verdict s) (glues ▷ energies ▷ seeds) e);
      strand_glues = all_below Glue 0 s.sizes.glues s.strand_glues (first_passes first second g);
      scaffold = all_below Glue (length s.strand_glues) s.sizes.glues s.scaffold (rest_passes first second g);
      seeds = ltb-false (first_bad_seed s.sizes s.seeds) (length s.seeds / 3) (no_fault (ltb (first_bad_seed s.sizes s.seeds) (length s.seeds / 3)) _ last);
    }
