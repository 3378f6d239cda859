-- Constraint sheets in the writer's own form, no field in quotes and each record ended by CR LF, and what it says that a text comes back.
-- Assumes nothing.
use Rattle.std.specs.Prelude.{ℕ, suc, ◌≡◌, List, [], ◌∷◌, ◌++◌, length, take, Ok}
use Rattle.sheet_cells.specs.Cells.{front}
use Rattle.sheet.specs.Read.{offsets_after, tiles_after}
use Rattle.sheet.specs.Write.{write_answer, text_after}
use Rattle.sheet_grammar.specs.Grammar.{ListText}

-- fields without quotes, commas between them
pub data WrittenRecord : (columns : ℕ) → (text : List ℕ) → (contents lists : List (List ℕ)) → Type 0 where
  last_field : {t ns : List ℕ} → ListText t ns → WrittenRecord 1 t (t ∷ []) (ns ∷ [])
  field_before : {t ns u : List ℕ} {k : ℕ} {cs ls : List (List ℕ)} → ListText t ns → WrittenRecord k u cs ls
      → WrittenRecord (suc k) (t ++ 44 ∷ u) (t ∷ cs) (ns ∷ ls)

-- records, each ended by CR LF, the last one too
pub data WrittenSheet (columns : ℕ) : (rows : ℕ) → (text : List ℕ) → (contents lists : List (List ℕ)) → Type 0 where
  no_record : WrittenSheet columns 0 [] [] []
  ended_record : {t u : List ℕ} {k : ℕ} {cs ls ds ms : List (List ℕ)} → WrittenRecord columns t cs ls → WrittenSheet columns k u ds ms
      → WrittenSheet columns (suc k) (t ++ 13 ∷ 10 ∷ [] ++ u) (cs ++ ds) (ls ++ ms)

-- A text that was read into lent offsets and tiles comes back from the call that writes: that call, given the offsets and as many of the
-- tiles as the reading counted, answers the text's length, and what it was lent begins with the text and goes on as it was.
pub record ComesBack (rows columns : ℕ) (text offsets tiles : List ℕ) (count : ℕ) (lent : List ℕ) : Type 0 where
  pub answers :
      write_answer rows columns (offsets_after rows columns text offsets tiles) (take count (tiles_after rows columns text offsets tiles)) lent ≡ Ok (length text)
  pub leaves :
      text_after rows columns (offsets_after rows columns text offsets tiles) (take count (tiles_after rows columns text offsets tiles)) lent ≡ front text lent
