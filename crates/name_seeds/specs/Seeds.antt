-- Seeds that are given by name: the tests in their order, and the triples that they become. Assumes nothing.
use Rattle.std.specs.Prelude.{ℕ, zero, suc, List, [], ◌∷◌, ◌++◌, length}
use Rattle.units.specs.Refusals.{Verdict, ◌▷◌, if_passes}
use Rattle.name_strands.specs.Names.{StrandNames}
use Rattle.name_seed_checks.specs.Sizes.{SeedList, seed_count, seeds_sizes, seeds_reading}
use Rattle.name_seed_checks.specs.Strands.{seed_strand}
use Rattle.name_seed_checks.specs.Each.{seed_row, seed_col, seed_name, each_seed}

-- all of 1, then all of 17, then seed by seed
unfoldable pub seeds_verdict : (rows cols strands : ℕ) → StrandNames → SeedList → (table : ℕ) → Verdict
seeds_verdict rows cols strands n s table = seeds_sizes rows cols strands n s table ▷ seeds_reading n s ▷ each_seed rows cols n s

-- the triples of the first k seeds: row, column, strand
unfoldable pub seed_triples : StrandNames → SeedList → (k : ℕ) → List ℕ
seed_triples n s zero = []
seed_triples n s (suc k) = seed_triples n s k ++ (seed_row s k ∷ seed_col s k ∷ seed_strand n (seed_name s k) ∷ [])

-- the lent table afterwards: the triples of all seeds, or what it held where a test refuses
abbrev pub seeds_after : (rows cols strands : ℕ) → StrandNames → SeedList → (old : List ℕ) → List ℕ
seeds_after rows cols strands n s old = if_passes (seeds_verdict rows cols strands n s (length old)) (seed_triples n s (seed_count s)) old
