-- What the steps of collecting bases ask of each other and leave to each other. Assumes nothing.
use Rattle.std.specs.Prelude.{ℕ, ◌≤◌, ◌≡◌, List, length}
use Rattle.units.specs.Limits.{most_bases}
use Rattle.name_glues.specs.Names.{GlueNames}
use Rattle.name_new_bases.specs.declared.BaseList.{BaseList}
use Rattle.name_new_bases.specs.Bases.{firsts_to, bases_table}

-- the bases that these entries bring, and their count
abbrev pub base_list : GlueNames → (firsts : List ℕ) → BaseList
base_list n firsts = record { numbers = bases_table n firsts; count = length firsts }

-- the bases that the first k entries bring, and their count
pub record Holds (n : GlueNames) (k : ℕ) (bases : List ℕ) (count : ℕ) : Type 0 where
  pub few : count ≤ most_bases
  pub counted : count ≡ length (firsts_to n k)
  pub list : bases ≡ bases_table n (firsts_to n k)
