-- The calls on sequences, by their names. Assumes nothing.
use Rattle.std.specs.Prelude.{ℕ, Bool, ◌||◌, List}
use Rattle.text_put.specs.Words.{bytes}
use Rattle.text_entries.specs.Entries.{same_bytes}

-- the three calls on one sequence
abbrev pub is_on_one : List ℕ → Bool
is_on_one name =
    same_bytes name (bytes "string_dna_dg_ds")
    || same_bytes name (bytes "string_dna_delta_g")
    || same_bytes name (bytes "string_dna_hundredths")

-- these, and the one on a pair
abbrev pub knows : List ℕ → Bool
knows name = is_on_one name || same_bytes name (bytes "sequence_pair_str_dg_ds")
