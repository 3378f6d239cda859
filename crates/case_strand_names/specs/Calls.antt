-- The calls on names of strands, by their names. Assumes nothing.
use Rattle.std.specs.Prelude.{ℕ, Bool, ◌||◌, List}
use Rattle.text_put.specs.Words.{bytes}
use Rattle.text_entries.specs.Entries.{same_bytes}

-- the name of one tile, and seeds by their names
abbrev pub knows : List ℕ → Bool
knows name = same_bytes name (bytes "tile_name") || same_bytes name (bytes "seeds_by_name")
