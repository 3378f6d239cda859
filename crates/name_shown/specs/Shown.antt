-- The part of one of two lent texts that is shown for a tile. Assumes nothing.
use Rattle.std.specs.Prelude.{ℕ, ◌+◌, ◌-◌, cond, List, eqb, get_or}
use Rattle.text_entries.specs.Entries.{part, after}
use Rattle.name_strands.specs.Numerals.{numeral_start, numeral_end}
use Rattle.name_strands.specs.Names.{StrandNames}

-- A part of one of the two lent texts, from one place up to another.
pub data Part : Type 0 where
  of_text : (from to : ℕ) → Part
  of_numerals : (from to : ℕ) → Part

-- its bytes
abbrev pub bytes_of : StrandNames → Part → List ℕ
bytes_of n (of_text from to) = part n.text from to
bytes_of n (of_numerals from to) = part n.numerals from to

-- where a part begins, the two texts beginning at these places
abbrev pub begins_at : (text numerals : ℕ × ℕ) → Part → ℕ × ℕ
begins_at text numerals (of_text from to) = after text from
begins_at text numerals (of_numerals from to) = after numerals from

-- the part that is shown for a tile: its name where it has one, else the digits of its place in the list of strands, which is one less
abbrev pub shown_part : StrandNames → ℕ → Part
shown_part n tile =
    cond (eqb (get_or n.present tile 0) 1)
    (of_text (get_or n.offsets tile 0) (get_or n.offsets (tile + 1) 0))
    (of_numerals (numeral_start (tile - 1)) (numeral_end (tile - 1)))

-- the name shown for a tile
unfoldable pub shown_name : StrandNames → ℕ → List ℕ
shown_name n tile = bytes_of n (shown_part n tile)
