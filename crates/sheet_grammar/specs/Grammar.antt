-- The grammar of constraint sheets: which texts are sheets of so many rows and columns, what each field's content is, quotes taken
-- off, and which list it stands for. Assumes nothing.
use Rattle.std.specs.Prelude.{ℕ, suc, ◌≡◌, Bool, true, false, List, [], ◌∷◌, ◌++◌}
use Rattle.text_digits.specs.Digits.{worth}
use Rattle.sheet_number_lists.specs.NumberLists.{is_plain_number}

-- one number or more, single spaces between them
pub data NumbersText : List ℕ → List ℕ → Type 0 where
  one : (w : List ℕ) → is_plain_number w ≡ true → NumbersText w (worth 10 0 w ∷ [])
  another : (w : List ℕ) → is_plain_number w ≡ true → {t : List ℕ} {ns : List ℕ} → NumbersText t ns → NumbersText (w ++ 32 ∷ t) (worth 10 0 w ∷ ns)

-- a content of no bytes is the empty list; any other is its numbers
pub data ListText : List ℕ → List ℕ → Type 0 where
  nothing : ListText [] []
  numbers : {t : List ℕ} {ns : List ℕ} → NumbersText t ns → ListText t ns

-- a field is its content, or its content between quotes
pub data FieldText : (text content list : List ℕ) → Type 0 where
  bare : {t : List ℕ} {ns : List ℕ} → ListText t ns → FieldText t t ns
  quoted : {t : List ℕ} {ns : List ℕ} → ListText t ns → FieldText (34 ∷ t ++ 34 ∷ []) t ns

-- fields with commas between them
pub data RecordText : (columns : ℕ) → (text : List ℕ) → (contents lists : List (List ℕ)) → Type 0 where
  last : {t : List ℕ} {c : List ℕ} {ns : List ℕ} → FieldText t c ns → RecordText 1 t (c ∷ []) (ns ∷ [])
  comma : {t : List ℕ} {c : List ℕ} {ns : List ℕ} {k : ℕ} {u : List ℕ} {cs : List (List ℕ)} {ls : List (List ℕ)} → FieldText t c ns → RecordText k u cs ls → RecordText (suc k) (t ++ 44 ∷ u) (c ∷ cs) (ns ∷ ls)

-- LF, or CR LF
pub data LineEnd : List ℕ → Type 0 where
  lf : LineEnd (10 ∷ [])
  crlf : LineEnd (13 ∷ 10 ∷ [])

-- what stands after a field, whether its record goes on, and the text after that: the end, a comma or a line ending
pub data Separator : (more : Bool) → (text tail : List ℕ) → Type 0 where
  at_end : Separator false [] []
  at_comma : {u : List ℕ} → Separator true (44 ∷ []) u
  at_line : {e : List ℕ} {u : List ℕ} → LineEnd e → Separator false e u

-- records, each with its line ending, which may be missing after a last one that has bytes
pub data SheetText (columns : ℕ) : (rows : ℕ) → (text : List ℕ) → (contents lists : List (List ℕ)) → Type 0 where
  none : SheetText columns 0 [] [] []
  line : {t : List ℕ} {cs : List (List ℕ)} {ls : List (List ℕ)} {e : List ℕ} {k : ℕ} {u : List ℕ} {ds : List (List ℕ)} {ms : List (List ℕ)} → RecordText columns t cs ls → LineEnd e → SheetText columns k u ds ms → SheetText columns (suc k) (t ++ e ++ u) (cs ++ ds) (ls ++ ms)
  open_ended : {b : ℕ} {t : List ℕ} {cs : List (List ℕ)} {ls : List (List ℕ)} → RecordText columns (b ∷ t) cs ls → SheetText columns 1 (b ∷ t) cs ls
