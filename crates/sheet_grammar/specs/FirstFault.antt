-- The place that a refusal of a sheet names, in the grammar's words: what stands before it begins a sheet of the grid, and there a field is bad,
-- missing or surplus. Assumes nothing.
use Rattle.std.specs.Prelude.{ℕ, suc, ◌≤◌, ◌<◌, ◌≡◌, Bool, false, List, [], ◌∷◌, ◌++◌, length}
use Rattle.sheet_grammar.specs.Grammar.{FieldText, RecordText, LineEnd, Separator, SheetText}

-- a text begins with a field of the grammar that is ended: by the text's end, a comma or a line ending
pub record FieldHere (t : List ℕ) : Type 0 where
  pub text : List ℕ
  pub content : List ℕ
  pub list : List ℕ
  pub more : Bool
  pub sep : List ℕ
  pub tail : List ℕ
  pub is_field : FieldText text content list
  pub ends : Separator more sep tail
  pub all : t ≡ text ++ (sep ++ tail)

-- so many fields, each with a comma behind it
pub data Fields : (count : ℕ) → (text : List ℕ) → Type 0 where
  no_field : Fields 0 []
  one_field : {t c ns u : List ℕ} {k : ℕ} → FieldText t c ns → Fields k u → Fields (suc k) (t ++ 44 ∷ u)

-- so many records, each with its line ending
pub data Lines (columns : ℕ) : (count : ℕ) → (text : List ℕ) → Type 0 where
  no_line : Lines columns 0 []
  one_line : {t e u : List ℕ} {k : ℕ} {cs ls : List (List ℕ)} → RecordText columns t cs ls → LineEnd e → Lines columns k u
      → Lines columns (suc k) (t ++ (e ++ u))

-- What is wrong with a record: what is right of it, what stands there instead of its next field, and that field's number, from 1.
pub data WrongRecord (columns : ℕ) : (before rest : List ℕ) → (number : ℕ) → Type 0 where
  -- a bad field: behind some fields, fewer than the columns, no field of the grammar stands
  bad_field : {k : ℕ} {before rest : List ℕ} → Fields k before → k < columns → (FieldHere rest → ⊥) → WrongRecord columns before rest (suc k)
  -- a missing field: behind fewer fields than the columns the text or the line ends
  missing_field : {k : ℕ} {before sep tail : List ℕ} {cs ls : List (List ℕ)} → RecordText k before cs ls → k < columns → Separator false sep tail
      → WrongRecord columns before (sep ++ tail) (suc k)
  -- a surplus field: behind as many fields as the columns a comma stands
  surplus_field : {before tail : List ℕ} {cs ls : List (List ℕ)} → RecordText columns before cs ls → WrongRecord columns before (44 ∷ tail) (suc columns)

-- What is wrong with a sheet: what is right of it, what stands there instead, and the line and the field told, from 1.
pub data WrongSheet (columns rows : ℕ) : (before rest : List ℕ) → (line number : ℕ) → Type 0 where
  -- behind some lines, fewer than the rows, there are bytes, and their record is wrong
  in_record : {k number : ℕ} {a b rest : List ℕ} → Lines columns k a → k < rows → 1 ≤ length (b ++ rest) → WrongRecord columns b rest number
      → WrongSheet columns rows (a ++ b) rest (suc k) number
  -- a missing record: the text is a sheet of fewer rows
  missing_record : {k : ℕ} {before : List ℕ} {cs ls : List (List ℕ)} → SheetText columns k before cs ls → k < rows → WrongSheet columns rows before [] (suc k) 1
  -- a surplus record: behind as many lines as the rows there are bytes
  surplus_record : {b : ℕ} {before tail : List ℕ} → Lines columns rows before → WrongSheet columns rows before (b ∷ tail) (suc rows) 1

-- some sheet of the grid begins with a text
pub record BeginsSheet (columns rows : ℕ) (before : List ℕ) : Type 0 where
  pub tail : List ℕ
  pub contents : List (List ℕ)
  pub lists : List (List ℕ)
  pub is_sheet : SheetText columns rows (before ++ tail) contents lists

-- A line and a field are the first place of a text at which something is wrong.
pub record FirstFault (columns rows : ℕ) (text : List ℕ) (line number : ℕ) : Type 0 where
  pub before : List ℕ
  pub rest : List ℕ
  pub all : text ≡ before ++ rest
  -- what stands before the place is the beginning of a sheet of the grid
  pub right_before : BeginsSheet columns rows before
  -- and what stands there is wrong: no sheet of the grid is the text (`no_sheet` in proofs/FirstFault.antt)
  pub wrong_here : WrongSheet columns rows before rest line number
