-- What is refused of each seed that is given by name. Assumes nothing.
use Rattle.std.specs.Prelude.{ℕ, ◌+◌, ◌*◌, not, ◌&&◌, List, ltb, get_or}
use Rattle.units.specs.Refusals.{Verdict, refuse_if, ◌▷◌}
use Rattle.units.specs.declared.refusal.Refusal.TheVariants.{Seed, UnknownSeed}
use Rattle.text_entries.specs.Entries.{entry_of}
use Rattle.text_entries.specs.InOrder.{each_from}
use Rattle.name_strands.specs.Names.{StrandNames}
use Rattle.name_seed_checks.specs.Sizes.{SeedList, seed_count}
use Rattle.name_seed_checks.specs.Strands.{tile_count, seed_strand}

-- the row, the column and the name of seed k
abbrev pub seed_row : SeedList → ℕ → ℕ
seed_row s k = get_or s.places (2 * k) 0

abbrev pub seed_col : SeedList → ℕ → ℕ
seed_col s k = get_or s.places (2 * k + 1) 0

abbrev pub seed_name : SeedList → ℕ → List ℕ
seed_name s k = entry_of s.text s.offsets k

-- 4, with the seed's place in the list: its row or its column is off the grid
abbrev pub seed_off_grid : (rows cols : ℕ) → SeedList → ℕ → Verdict
seed_off_grid rows cols s k = refuse_if (not (ltb (seed_row s k) rows && ltb (seed_col s k) cols)) (Seed k)

-- 18, with the seed's place in the list: its name is the shown name of no tile
abbrev pub seed_unknown : StrandNames → SeedList → ℕ → Verdict
seed_unknown n s k = refuse_if (not (ltb (seed_strand n (seed_name s k)) (tile_count n))) (UnknownSeed k)

unfoldable pub seed_verdict : (rows cols : ℕ) → StrandNames → SeedList → ℕ → Verdict
seed_verdict rows cols n s k = seed_off_grid rows cols s k ▷ seed_unknown n s k

-- every seed, in list order
abbrev pub each_seed : (rows cols : ℕ) → StrandNames → SeedList → Verdict
each_seed rows cols n s = each_from (seed_verdict rows cols n s) 0 (seed_count s)
