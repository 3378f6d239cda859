-- Contents laid one after the other as the entries of a text: where each ends, and whether it has any bytes. Assumes nothing.
use Rattle.std.specs.Prelude.{ℕ, ◌+◌, min, cond, ◌&&◌, ◌≡◌, eqb, length, get_or}
use mathlib.Core.List.{List, [], ◌∷◌, map, flatten}
use Rattle.std.proofs.lemmas.List.Edits.{sets}
use Rattle.text_put.specs.Puts.{Put}
use Rattle.sheet_names.specs.declared.Laid.{Laid}

-- 0 for an entry without a byte, 1 for any other
unfoldable pub flag_of : List ℕ → ℕ
flag_of entry = cond (eqb (length entry) 0) 0 1

-- where each of some entries ends, laid one after the other from a place on; the room's end where it is cut off
unfoldable pub ends : (room at : ℕ) → List (List ℕ) → List ℕ
ends room at [] = []
ends room at (e ∷ es) = min room (at + length e) ∷ ends room (min room (at + length e)) es

-- entries were appended to those that were there: all their bytes follow the bytes before, the ends follow the offsets before, and a flag
-- for each follows the flags before
pub record Appended (out offsets present : List ℕ) (start : Laid) (entries : List (List ℕ)) (stop : Laid) (out' offsets' present' : List ℕ) : Type 0 where
  pub counted : stop.entries ≡ start.entries + length entries
  pub laid : Put out start.bytes (flatten entries) stop.bytes out'
  pub ended : offsets' ≡ sets offsets (start.entries + 1) (ends (length out) start.bytes entries)
  pub flagged : present' ≡ sets present start.entries (map flag_of entries)

-- how many bytes stand for the first one of a content in quotes: two for a quote
unfoldable pub pair_step : List ℕ → ℕ
pair_step t = cond (eqb (get_or t 0 0) 34 && eqb (get_or t 1 0) 34) 2 1
