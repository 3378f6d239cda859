-- The call on energy keys, by its name. Assumes nothing.
use Rattle.std.specs.Prelude.{ℕ, Bool, List}
use Rattle.text_put.specs.Words.{bytes}
use Rattle.text_entries.specs.Entries.{same_bytes}

-- the one call
abbrev pub knows : List ℕ → Bool
knows name = same_bytes name (bytes "energy_keys")
