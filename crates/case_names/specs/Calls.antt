-- The calls on glue names, by their names. Assumes nothing.
use Rattle.std.specs.Prelude.{ℕ, Bool, ◌||◌, List}
use Rattle.text_put.specs.Words.{bytes}
use Rattle.text_entries.specs.Entries.{same_bytes}

-- the base of one name, and the register of many
abbrev pub knows : List ℕ → Bool
knows name = same_bytes name (bytes "self_and_inverse") || same_bytes name (bytes "register")
