-- The bound of specs, for every sequence, of the contract of `string_dna_dg_ds` itself. Assumes nothing.
use Prim.Native.Nat.{ℕ, suc, ◌-◌, ◌≤◌}
use mathlib.Core.Path.{refl, ap}
use mathlib.Core.List.{List}
use native.Mathlib.Omega.{arith}
use lib.Dec.{lit≤}
use lib.Ieee.{binary64, add}
use lib.ListN.{length}
use contract.Lifetimes.{Lfts}
use denote.Triple.Clauses.{AtExit}
use borrow.Fn.Kinds.{Dens, res_t, ended_of}
use Rattle.floats.proofs.Distances.{close_coarser}
use Rattle.units.specs.Limits.{most_letters}
use Rattle.units.specs.Decimals.{minus}
use Rattle.dna_letters.specs.declared.DnaNucleotideBase.{DnaNucleotideBase}
use Rattle.dna_letters.specs.Bases.{base_at}
use Rattle.dna_steps.specs.Steps.{dg_ds, start, no_energy}
use Rattle.dna_steps.specs.Published.{published_start_dg}
use Rattle.dna_steps.proofs.StepTables.{step_at_most}
use Rattle.dna_steps.proofs.Published.{as_published}
use Rattle.dna_single.specs.Single.{steps_sum, single_energy, single_verdict}
use Rattle.dna_calls.specs.Single.{string_dna_dg_ds}
use Rattle.dna_calls.proofs.Refused.{single_short, answered}
use Rattle.dna_calls.proofs.string_dna_dg_ds.Kinds as kinds
use Rattle.dna_calls.proofs.string_dna_dg_ds.Reads as reads
use Rattle.dna_published.specs.PublishedSums.{published_dg, whole_to}
use Rattle.dna_bound.specs.Bound.{DeltaGBound}
use Rattle.dna_bound.proofs.Sums.{Running, all_close}

published_at_most : (a b : DnaNucleotideBase) → published_dg a b ≤ 224
published_at_most a b = rw (← (as_published a b).dg) (step_at_most a b)

steps_run : (dna : List ℕ) → Running (λ i. published_dg (base_at dna i) (base_at dna (suc i))) (whole_to published_dg dna) (λ n. (steps_sum dna n).dg)
unfolding steps_sum whole_to dg_ds no_energy
steps_run dna =
    record {
      small = λ i. published_at_most (base_at dna i) (base_at dna (suc i));
      none = refl;
      more = λ i. refl;
      start = refl;
      next = λ i. ap (λ h. add binary64 (minus h 100) (steps_sum dna i).dg) (as_published (base_at dna i) (base_at dna (suc i))).dg;
    }

by_definition : (dna : List ℕ) → DeltaGBound dna (string_dna_dg_ds dna)
unfolding start
by_definition dna energy h =
    let a = answered (single_verdict dna) (single_energy dna) energy h in
    let few : length dna ≤ most_letters = single_short dna a.0 in
    rw a.1
    (close_coarser (lit≤ tt) (lit≤ tt) (all_close (steps_run dna) (length dna - 1) published_start_dg (omega arith) (lit≤ tt)))

-- Of any result that meets the contract of `string_dna_dg_ds`, the bound holds.
pub delta_g_bound : (κs : Lfts 1) (lent : Dens κs kinds.ps) (answer : (res_t kinds.r κs).Denot) (exit : AtExit (ended_of 1 kinds.ps kinds.r) κs)
    → reads.Post κs lent answer exit → DeltaGBound lent.0.now answer
delta_g_bound κs lent answer exit post = rw post (by_definition lent.0.now)
