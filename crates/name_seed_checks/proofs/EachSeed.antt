-- What the tests of the seeds tell where they pass. Assumes nothing.
use Prim.Native.Nat.{ℕ, ◌<◌}
use mathlib.Core.Path.{◌≡◌}
use lib.Dec.{ltb}
use borrow.Author.Tests.{ltb-true}
use Rattle.units.specs.Refusals.{passes}
use Rattle.units.specs.declared.refusal.Refusal.TheVariants.{Seed, UnknownSeed}
use Rattle.units.proofs.Tests.{both}
use Rattle.units.proofs.Verdicts.{first_passes, rest_passes}
use Rattle.text_entries.proofs.Tested.{no_fault_found}
use Rattle.text_entries.proofs.InOrder.{each_passes}
use Rattle.name_strands.specs.Names.{StrandNames}
use Rattle.name_seed_checks.specs.Sizes.{SeedList, seed_count}
use Rattle.name_seed_checks.specs.Each.{seed_row, seed_col, seed_name, seed_off_grid, seed_unknown, seed_verdict, each_seed}
use Rattle.name_seed_checks.specs.Strands.{tile_count, seed_strand}

-- a seed that lies on the grid and is named as a tile is
pub record Placed (rows cols : ℕ) (n : StrandNames) (s : SeedList) (k : ℕ) : Type 0 where
  pub row : seed_row s k < rows
  pub col : seed_col s k < cols
  pub strand : seed_strand n (seed_name s k) < tile_count n

module _ (rows cols : ℕ) (n : StrandNames) (s : SeedList) where
  placed : (k : ℕ) → seed_verdict rows cols n s k ≡ passes → Placed rows cols n s k
  unfolding seed_verdict
  placed k e =
      let on_grid = both (ltb (seed_row s k) rows) (ltb (seed_col s k) cols) (no_fault_found _ (Seed k) (first_passes (seed_off_grid rows cols s k) (seed_unknown n s k) e)) in
      record {
        row = ltb-true (seed_row s k) rows on_grid.0;
        col = ltb-true (seed_col s k) cols on_grid.1;
        strand = ltb-true (seed_strand n (seed_name s k)) (tile_count n) (no_fault_found _ (UnknownSeed k) (rest_passes (seed_off_grid rows cols s k) (seed_unknown n s k) e));
      }

  pub all_placed : (k : ℕ) → each_seed rows cols n s ≡ passes → k < seed_count s → Placed rows cols n s k
  all_placed k e h = placed k (each_passes (seed_verdict rows cols n s) (seed_count s) k e h)
