-- What all tests of named seeds tell where they pass. Assumes nothing.
use Prim.Native.Nat.{ℕ, ◌+◌, ◌*◌, ◌<◌}
use mathlib.Core.Path.{◌≡◌}
use mathlib.Core.List.{List}
use native.Mathlib.Omega.{arith}
use lib.ListN.{length, get_or}
use Rattle.units.specs.Limits.{most_side}
use Rattle.units.specs.Refusals.{passes, ◌▷◌}
use Rattle.units.specs.declared.refusal.Refusal.TheVariants.{Size, Unreadable}
use Rattle.units.proofs.Verdicts.{first_passes, rest_passes}
use Rattle.text_entries.proofs.Tested.{no_fault_found}
use Rattle.name_strands.specs.Names.{StrandNames, StrandsReadable}
use Rattle.name_strands.proofs.Passed.{sized}
use Rattle.name_seed_checks.specs.Sizes.{SeedList, seed_count, seeds_sizes, seeds_reading, SeedsReadable}
use Rattle.name_seed_checks.specs.Strands.{tile_count, seed_strand}
use Rattle.name_seed_checks.specs.Each.{seed_row, seed_col, seed_name, each_seed}
use Rattle.name_seeds.specs.Seeds.{seeds_verdict, seed_triples}
use Rattle.name_seed_checks.proofs.EachSeed.{all_placed}
use Rattle.name_seed_checks.proofs.Sized.{sizes_hold, names_there as entry_0_there, table_size, both_readable}
use Rattle.name_seeds.proofs.Triples.{each_triple}

-- what the filling asks, where all tests passed
pub record Fillable (n : StrandNames) (s : SeedList) (table : ℕ) : Type 0 where
  pub strands_readable : StrandsReadable n
  pub seeds_readable : SeedsReadable s
  pub placed : (k : ℕ) → k < seed_count s → (seed_row s k < most_side) × (seed_col s k < most_side)
  pub named : (k : ℕ) → k < seed_count s → seed_strand n (seed_name s k) < tile_count n
  pub table_len : table ≡ 3 * seed_count s

-- What the tests tell where they pass, step by step.
module _ (rows cols strands : ℕ) (n : StrandNames) (s : SeedList) (table : ℕ) (sizes : seeds_sizes rows cols strands n s table ≡ passes) where
  -- names of right sizes have an entry 0
  pub names_there : (1 < length n.offsets) × (0 < length n.present)
  names_there = entry_0_there rows cols strands n s table (no_fault_found _ Size sizes)

  module _ (texts : seeds_reading n s ≡ passes) where
    pub texts_readable : StrandsReadable n × SeedsReadable s
    texts_readable = both_readable rows cols strands n s table (no_fault_found _ Size sizes) (no_fault_found _ Unreadable texts)

    -- each seed has its row and column on a grid of at most 32, and its strand
    pub fillable : each_seed rows cols n s ≡ passes → Fillable n s table
    fillable each =
        let t = sizes_hold rows cols strands n s table (no_fault_found _ Size sizes) in
        record {
          strands_readable = texts_readable.0;
          seeds_readable = texts_readable.1;
          placed = λ k h. let p = all_placed rows cols n s k each h in (omega (arith, p.row, t.few_rows), omega (arith, p.col, t.few_cols));
          named = λ k h. (all_placed rows cols n s k each h).strand;
          table_len = table_size s table t.seeds;
        }

-- the seeds of a table that was filled lie on the grid and have strands below the count, as a system asks of its seeds
pub record Taken (rows cols strands : ℕ) (table : List ℕ) (k : ℕ) : Type 0 where
  pub row : get_or table (3 * k) 0 < rows
  pub col : get_or table (3 * k + 1) 0 < cols
  pub strand : get_or table (3 * k + 2) 0 < strands

pub filled_seeds_are_taken : (rows cols strands : ℕ) (n : StrandNames) (s : SeedList) (table k : ℕ) → seeds_verdict rows cols strands n s table ≡ passes → k < seed_count s
    → Taken rows cols strands (seed_triples n s (seed_count s)) k
unfolding seeds_verdict
filled_seeds_are_taken rows cols strands n s table k e h =
    let sizes = seeds_sizes rows cols strands n s table in
    let each = each_seed rows cols n s in
    let t = sizes_hold rows cols strands n s table (no_fault_found _ Size (first_passes sizes (seeds_reading n s ▷ each) e)) in
    let count = (sized strands n t.names).byte_count in
    let p = all_placed rows cols n s k (rest_passes (seeds_reading n s) each (rest_passes sizes (seeds_reading n s ▷ each) e)) h in
    let at = each_triple n s (seed_count s) k h in
    record { row = rw at.row p.row; col = rw at.col p.col; strand = rw (at.strand, ← count) p.strand }
