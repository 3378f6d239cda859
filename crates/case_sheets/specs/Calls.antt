-- The calls on constraint sheets, by their names. Assumes nothing.
use Rattle.std.specs.Prelude.{ℕ, Bool, ◌||◌, List}
use Rattle.text_put.specs.Words.{bytes}
use Rattle.text_entries.specs.Entries.{same_bytes}

-- the reading and the writing
abbrev pub knows : List ℕ → Bool
knows name = same_bytes name (bytes "read_sheet") || same_bytes name (bytes "write_sheet")
