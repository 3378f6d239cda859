-- What is asked of the tables that bonds of strands are read from; a system that passed its tests has it. Assumes nothing.
use Rattle.std.specs.Prelude.{ℕ, ◌*◌, ◌≤◌, ◌<◌, ◌≡◌, length, get_or}
use Rattle.units.specs.Limits.{most_strands, most_glues}
use Rattle.bay_system.specs.System.{System}

-- glues in range, two square matrices over them, five glues for each strand, each below the count
pub record Readable (s : System) : Type 0 where
  pub few_strands : s.sizes.strands ≤ most_strands
  pub few_glues : s.sizes.glues ≤ most_glues
  pub energies : length s.delta_g ≡ s.sizes.glues * s.sizes.glues
  pub entropies : length s.entropy ≡ s.sizes.glues * s.sizes.glues
  pub five : length s.strand_glues ≡ s.sizes.strands * 5
  pub below : (i : ℕ) → i < length s.strand_glues → get_or s.strand_glues i 0 < s.sizes.glues
