-- The calls on a system, by their names. Assumes nothing.
use Rattle.std.specs.Prelude.{ℕ, Bool, ◌||◌, List}
use Rattle.text_put.specs.Words.{bytes}
use Rattle.text_entries.specs.Entries.{same_bytes}

-- the four calls that a system is read for
abbrev pub knows : List ℕ → Bool
knows name =
    same_bytes name (bytes "allowed_tiles")
    || same_bytes name (bytes "bonds")
    || same_bytes name (bytes "state_g")
    || same_bytes name (bytes "mfe_configuration")
