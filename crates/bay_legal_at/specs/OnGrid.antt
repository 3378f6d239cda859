-- What the inner functions ask of a system that passed its tests. Assumes nothing.
use Rattle.std.specs.Prelude.{ℕ, ◌%◌, ◌≤◌, ◌<◌, ◌≡◌, length, get_or, Option, Some, None}
use Rattle.units.specs.Limits.{most_side}
use Rattle.bay_bonds.specs.Readable.{Readable}
use Rattle.bay_system.specs.System.{System}
use Rattle.bay_legal_at.specs.Legal.{seed_of}

-- a seed that is there is below a limit
abbrev pub Below : ℕ → Option ℕ → Type 0
Below limit None = Unit {0}
Below limit (Some strand) = strand < limit

-- of a bay: its glue and its seed are below their counts, and seeds come in triples
pub record OnGrid (s : System) (bay : ℕ) : Type 0 where
  pub inside : bay < length s.scaffold
  pub glue : get_or s.scaffold bay 0 < s.sizes.glues
  pub few_cols : s.sizes.cols ≤ most_side
  pub triples : length s.seeds % 3 ≡ 0
  pub seed : Below s.sizes.strands (seed_of s bay)

-- of every bay
pub record Grid (s : System) : Type 0 where
  pub readable : Readable s
  pub on_grid : (bay : ℕ) → bay < length s.scaffold → OnGrid s bay
