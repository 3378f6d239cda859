-- Tables that entries fill from the front. Assumes nothing.
use Rattle.std.specs.Prelude.{ℕ, List, length, set}
use Rattle.sheet_names.specs.Appended.{Appended}
use Rattle.sheet_names.specs.declared.Laid.{Laid}

-- no entries yet, behind so many bytes of the text
abbrev pub no_entries : (bytes : ℕ) → Laid
no_entries bytes = record { entries = 0; bytes = bytes }

-- entries fill tables from the front, their bytes behind so many of the text: the first offset is where these end, and `stop` is where the entries do
abbrev pub FrontFilled : (text offsets present : List ℕ) → (bytes : ℕ) → List (List ℕ) → (stop : ℕ) → (text' offsets' present' : List ℕ) → Type 0
FrontFilled text offsets present bytes entries stop text' offsets' present' =
    Appended text (set offsets 0 bytes) present (no_entries bytes) entries (record { entries = length entries; bytes = stop }) text' offsets' present'
