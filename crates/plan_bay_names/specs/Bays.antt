-- What is shown for the bays of a layout, and how many characters it has. Assumes nothing.
use Rattle.std.specs.Prelude.{ℕ, suc, ◌+◌, ◌-◌, max, cond, List, [], ◌∷◌, eqb, ltb, length}
use Rattle.name_strands.specs.Names.{StrandNames}
use Rattle.name_shown.specs.Shown.{bytes_of}
use Rattle.name_tiles.specs.Tiles.{tile_part}

-- the name that is shown for a tile, there being as many strands as presence bytes
unfoldable pub name_of : StrandNames → (tile : ℕ) → List ℕ
name_of n tile = bytes_of n (tile_part (length n.present) n tile)

-- what is shown for a bay: a point where it is empty, else the name of its tile
unfoldable pub bay_text : StrandNames → (tile : ℕ) → List ℕ
bay_text n tile = cond (eqb tile 0) (46 ∷ []) (name_of n tile)

-- 1 for a byte that begins a character, 0 for one of 128 to 191, which goes on with it
unfoldable pub begun : (byte : ℕ) → ℕ
begun byte = cond (ltb byte 128) 1 (cond (ltb byte 192) 0 1)

-- how many characters a text has
unfoldable pub character_count : List ℕ → ℕ
character_count [] = 0
character_count (byte ∷ bytes) = begun byte + character_count bytes

-- how many bytes the first so many characters of a text have
unfoldable pub front_bytes : (count : ℕ) → List ℕ → ℕ
front_bytes count [] = 0
front_bytes count (byte ∷ bytes) = cond (ltb count (begun byte)) 0 (suc (front_bytes (count - begun byte) bytes))

-- the most characters that one of the bays shows
unfoldable pub widest_bay : StrandNames → (layout : List ℕ) → ℕ
widest_bay n [] = 0
widest_bay n (tile ∷ tiles) = max (character_count (bay_text n tile)) (widest_bay n tiles)
