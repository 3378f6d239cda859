-- What writing a constraint sheet answers and writes. Assumes nothing.
use Rattle.std.specs.Prelude.{ℕ, ◌*◌, not, List, Result, ltb, length}
use Rattle.units.specs.declared.refusal.Refusal.{Refusal}
use Rattle.units.specs.declared.refusal.Refusal.TheVariants.{Shape, NoRoom}
use Rattle.units.specs.Refusals.{Verdict, refuse_if, answer, if_passes, ◌▷◌}
use Rattle.bay_lists.specs.Lists.{offsets_shaped, lists}
use Rattle.sheet_cells.specs.Cells.{front}
use Rattle.sheet_text.specs.Written.{sheet_text}
use Rattle.sheet_text.specs.Lengths.{capped}
use Rattle.sheet.specs.Read.{grid_verdict}

-- the bytes of the sheet
abbrev pub sheet_bytes : (rows columns : ℕ) → (offsets tiles : List ℕ) → List ℕ
sheet_bytes rows columns offsets tiles = sheet_text (lists offsets tiles) columns 0 rows

-- how many they are, or the largest usize where they are more
abbrev pub bytes_needed : (rows columns : ℕ) → (offsets tiles : List ℕ) → ℕ
bytes_needed rows columns offsets tiles = capped (length (sheet_bytes rows columns offsets tiles))

-- 5, for offsets of the wrong shape
abbrev pub offsets_verdict : (rows columns : ℕ) → (offsets tiles : List ℕ) → Verdict
offsets_verdict rows columns offsets tiles = refuse_if (not (offsets_shaped (rows * columns) (lists offsets tiles))) Shape

-- 9, where a text of this length has no room for the bytes needed
abbrev pub bytes_verdict : (room need : ℕ) → Verdict
bytes_verdict room need = refuse_if (ltb room need) (NoRoom need)

-- 1, 5 for offsets of the wrong shape, last 9 with the bytes needed
abbrev pub write_verdict : (rows columns : ℕ) → (offsets tiles text : List ℕ) → Verdict
write_verdict rows columns offsets tiles text =
    grid_verdict rows columns
    ▷ offsets_verdict rows columns offsets tiles
    ▷ bytes_verdict (length text) (bytes_needed rows columns offsets tiles)

abbrev pub write_answer : (rows columns : ℕ) → (offsets tiles text : List ℕ) → Result ℕ Refusal
write_answer rows columns offsets tiles text = answer (write_verdict rows columns offsets tiles text) (bytes_needed rows columns offsets tiles)

-- the text lent afterwards: a refusal writes nothing, and places beyond the sheet keep what they held
abbrev pub text_after : (rows columns : ℕ) → (offsets tiles text : List ℕ) → List ℕ
text_after rows columns offsets tiles text = if_passes (write_verdict rows columns offsets tiles text) (front (sheet_bytes rows columns offsets tiles) text) text
