-- Entries of a text, by offsets into it. Assumes nothing.
use Rattle.std.specs.Prelude.{ℕ, ◌+◌, ◌-◌, Bool, true, ◌&&◌, List, [], ◌∷◌, leb, eqb, get_or, take, drop}
use Rattle.std.specs.Str.{bytes_eq}
use Rattle.units.specs.Limits.{most_name_bytes}

-- what stands in a text from one place up to another
abbrev pub part : List ℕ → (from to : ℕ) → List ℕ
part text from to = take (to - from) (drop from text)

-- n bytes after a place in memory, which is a block and an offset in it
abbrev pub after : ℕ × ℕ → ℕ → ℕ × ℕ
after place n = (place.0, n + place.1)

-- entry i of a text
abbrev pub entry_of : (text offsets : List ℕ) → ℕ → List ℕ
entry_of text offsets i = part text (get_or offsets i 0) (get_or offsets (i + 1) 0)

-- no offset is below the one before it, the first one's being `last`, and none passes the end of the text
unfoldable pub offsets_from : (end last : ℕ) → List ℕ → Bool
offsets_from end last [] = true
offsets_from end last (offset ∷ offsets) = (leb last offset && leb offset end) && offsets_from end offset offsets

abbrev pub offsets_fit : (end : ℕ) → List ℕ → Bool
offsets_fit end offsets = offsets_from end 0 offsets

-- each byte is 0 or 1
unfoldable pub are_flags : List ℕ → Bool
are_flags [] = true
are_flags (byte ∷ bytes) = leb byte 1 && are_flags bytes

-- at most 16,384 bytes of text, one offset more than entries and a presence byte for each, by their lengths
abbrev pub entries_sized : (text offsets present entries : ℕ) → Bool
entries_sized text offsets present entries = leb text most_name_bytes && (eqb offsets (entries + 1) && eqb present entries)

-- the same bytes
abbrev pub same_bytes : List ℕ → List ℕ → Bool
same_bytes a b = bytes_eq a b
