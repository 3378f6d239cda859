-- The tile that a seed's name means. Assumes nothing.
use Rattle.std.specs.Prelude.{ℕ, ◌<◌, ◌≡◌, Bool, List, length}
use Rattle.text_entries.specs.Entries.{same_bytes}
use Rattle.text_entries.specs.InOrder.{first_from}
use Rattle.name_strands.specs.Names.{StrandNames}
use Rattle.name_shown.specs.Shown.{shown_name}

-- there is a presence byte for each tile
abbrev pub tile_count : StrandNames → ℕ
tile_count n = length n.present

-- this is the name shown for a tile
abbrev pub is_shown : StrandNames → (name : List ℕ) → ℕ → Bool
is_shown n name tile = same_bytes (shown_name n tile) name

-- the first tile with this shown name, or the count of tiles where there is none
abbrev pub seed_strand : StrandNames → (name : List ℕ) → ℕ
seed_strand n name = first_from (is_shown n name) 0 (tile_count n)

-- The first tile with a shown name, in words.
pub record FirstWith (n : StrandNames) (name : List ℕ) (tile : ℕ) : Type 0 where
  pub shows : shown_name n tile ≡ name
  pub none_before : (earlier : ℕ) → earlier < tile → shown_name n earlier ≡ name → ⊥
