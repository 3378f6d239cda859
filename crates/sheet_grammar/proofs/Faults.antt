-- What is wrong with a sheet in the grammar's words is what the scanner tells, and the other way round. Assumes nothing.
use Prim.Native.Nat.{ℕ, zero, suc, ◌+◌, ◌-◌, ◌≤◌}
use mathlib.Core.Path.{◌≡◌, refl, sym, ◌∙◌, ap, ap₂, subst, subst₂}
use mathlib.Core.Bool.{Bool, true, false, cond, true≢false}
use mathlib.Core.List.{List, [], ◌∷◌, ◌++◌, append_assoc, append-nil}
use native.Mathlib.Nat.{zero-add}
use native.Mathlib.Omega.{arith}
use lib.Dec.{eqb, ltb}
use lib.ListN.{length, length-append}
use borrow.Author.Tests.{ltb-false, lt-ltb, eqb-true, eqb-false, ne_eqb}
use Rattle.sheet_fields.specs.Fields.{field, after}
use Rattle.sheet_fields.specs.Runs.{past, goes_on, record_fault}
use Rattle.sheet_number_lists.specs.NumberLists.{is_list}
use Rattle.sheet_cells.specs.Cells.{is_cell, place, sheet_fault}
use Rattle.sheet_fields.specs.declared.Place.{Place}
use Rattle.sheet_grammar.specs.Grammar.{FieldText, RecordText, last, comma, LineEnd, Separator, at_end, at_comma, at_line, SheetText, none, line, open_ended}
use Rattle.sheet_grammar.specs.FirstFault.{FieldHere, Fields, no_field, one_field, Lines, no_line, one_line, WrongRecord, bad_field, missing_field, surplus_field, WrongSheet, in_record, missing_record, surplus_record}
use Rattle.sheet_grammar.proofs.OneField.{Begins, field_read, cell_text_lem, cell_read}
use Rattle.sheet_grammar.proofs.Accepted.{row_text_lem, some_field, some_byte, Starts, record-read}

-- ---- one cell of a record

-- a field of the grammar that is followed as it should be leaves the rest of its record
one_cell : {t c tail : List ℕ} {more : Bool} (column left : ℕ) → is_list c ≡ true → Begins t more c tail → cond more (ltb 0 left) (eqb left 0) ≡ true
    → record_fault is_cell column (suc left) t ≡ record_fault is_cell (column + 1) left tail
unfolding record_fault is_cell goes_on
one_cell column left l b g = rw (b.sound, b.has, l, b.goes_on, g, b.leaves)

-- and one that is not is told as the next
last_cell : {t c tail : List ℕ} {more : Bool} (column left : ℕ) → is_list c ≡ true → Begins t more c tail → cond more (ltb 0 left) (eqb left 0) ≡ false
    → record_fault is_cell column (suc left) t ≡ column + 1
unfolding record_fault is_cell goes_on
last_cell column left l b g = rw (b.sound, b.has, l, b.goes_on, g)

-- a cell is a field of the grammar, and the other way round
cell_here : (t : List ℕ) → is_cell t ≡ true → FieldHere t
cell_here t e =
    let c = cell_text_lem t e in
    record { text = c.text; content = _; list = _; more = _; sep = c.sep; tail = _; is_field = c.is_field; ends = c.ends; all = c.all }

here_cell : {t : List ℕ} → FieldHere t → is_cell t ≡ true
unfolding is_cell
here_cell h =
    let b = field_read h.is_field h.ends in
    rw (h.all, b.sound, b.has) (cell_read h.is_field).0

no_cell : (t : List ℕ) → (FieldHere t → ⊥) → is_cell t ≡ false
no_cell t bad = go (is_cell t) refl
  where
    go : (b : Bool) → is_cell t ≡ b → is_cell t ≡ false
    go true e = absurd (bad (cell_here t e))
    go false e = e

-- ---- what is wrong is told

-- past fields with commas
past_fields : {k : ℕ} {b : List ℕ} → Fields k b → (column left : ℕ) (t : List ℕ) → record_fault is_cell column (suc left + k) (b ++ t) ≡ record_fault is_cell (column + k) (suc left) t
past_fields no_field column left t =
    let all : suc left + 0 ≡ suc left = omega arith in
    let same : column ≡ column + 0 = omega arith in
    ap₂ (λ (n at : ℕ). record_fault is_cell at n t) all same
past_fields (one_field {t = f} {u = u} {k = k} x fs) column left t =
    let up : column + 1 + k ≡ column + suc k = omega arith in
    let more : suc left + suc k ≡ suc (suc left + k) = omega arith in
    ap₂ (record_fault is_cell column) more (append_assoc f (44 ∷ u) t)
    ∙ one_cell column (suc left + k) (cell_read x).0 (field_read x (at_comma {u = u ++ t})) (lt-ltb 0 (suc left + k) (omega arith))
    ∙ past_fields fs (column + 1) left t ∙ ap (λ (n : ℕ). record_fault is_cell n (suc left) t) up

-- behind a record that is not followed as it should be the next field is told
record-told : {k : ℕ} {r : List ℕ} {cs ls : List (List ℕ)} → RecordText k r cs ls → {more : Bool} {sep tail : List ℕ} → Separator more sep tail → (column left : ℕ)
    → cond more (ltb 0 left) (eqb left 0) ≡ false → record_fault is_cell column (left + k) (r ++ (sep ++ tail)) ≡ column + k
record-told (last {t = f} x) {sep = sep} {tail = tail} s column left g =
    let more : left + 1 ≡ suc left = omega arith in
    ap (λ (n : ℕ). record_fault is_cell column n (f ++ (sep ++ tail))) more ∙ last_cell column left (cell_read x).0 (field_read x s) g
record-told (comma {t = f} {k = k} {u = u} x r) {sep = sep} {tail = tail} s column left g =
    let some = some_field r in
    let up : column + 1 + k ≡ column + suc k = omega arith in
    let more : left + suc k ≡ suc (left + k) = omega arith in
    ap₂ (record_fault is_cell column) more (append_assoc f (44 ∷ u) (sep ++ tail))
    ∙ one_cell column (left + k) (cell_read x).0 (field_read x (at_comma {u = u ++ (sep ++ tail)})) (lt-ltb 0 (left + k) (omega arith))
    ∙ record-told r s (column + 1) left g ∙ up

number_told : {columns number : ℕ} {b t : List ℕ} → WrongRecord columns b t number → record_fault is_cell 1 columns (b ++ t) ≡ number
unfolding record_fault
number_told {columns = columns} (bad_field {k = k} {before = b} {rest = t} fs h bad) =
    let left = columns - suc k in
    let all : suc left + k ≡ columns = omega arith in
    ap (λ (n : ℕ). record_fault is_cell 1 n (b ++ t)) (sym all) ∙ past_fields fs 1 left t ∙ rw (no_cell t bad) (omega arith)
number_told {columns = columns} (missing_field {k = k} {before = b} {sep = sep} {tail = tail} r h s) =
    let left = columns - k in
    let all : left + k ≡ columns = omega arith in
    ap (λ (n : ℕ). record_fault is_cell 1 n (b ++ (sep ++ tail))) (sym all) ∙ record-told r s 1 left (ne_eqb left 0 (λ (z : left ≡ 0). omega arith)) ∙ omega arith
number_told {columns = columns} (surplus_field {before = b} {tail = tail} r) =
    ap (λ (n : ℕ). record_fault is_cell 1 n (b ++ 44 ∷ tail)) (sym (zero-add columns)) ∙ record-told r (at_comma {u = tail}) 1 0 refl ∙ omega arith

some_number : {columns number : ℕ} {b t : List ℕ} → WrongRecord columns b t number → 1 ≤ number
some_number (bad_field fs h bad) = omega arith
some_number (missing_field r h s) = omega arith
some_number (surplus_field r) = omega arith

-- past a record that has bytes and no fault
one_row_on : {columns : ℕ} {t tail : List ℕ} {cs ls : List (List ℕ)} (at left : ℕ) → 1 ≤ length t → Starts columns t cs ls tail
    → sheet_fault columns at (suc left) t ≡ sheet_fault columns (at + 1) left tail
unfolding sheet_fault
one_row_on {t = t} at left some s = rw (ne_eqb (length t) 0 (λ (z : length t ≡ 0). omega arith), s.no_fault 1, s.leaves)

-- past a record with its line ending
one_line_on : {columns : ℕ} {r e : List ℕ} {cs ls : List (List ℕ)} (at left : ℕ) (u : List ℕ) → RecordText columns r cs ls → LineEnd e
    → sheet_fault columns at (suc left) (r ++ (e ++ u)) ≡ sheet_fault columns (at + 1) left u
one_line_on {r = r} {e = e} at left u x l =
    let bytes = some_byte l in
    one_row_on at left (omega (arith, length-append r (e ++ u), length-append e u)) (record-read x (at_line {u = u} l))

past_lines : {columns k : ℕ} {a : List ℕ} → Lines columns k a → (at left : ℕ) (t : List ℕ) → sheet_fault columns at (left + k) (a ++ t) ≡ sheet_fault columns (at + k) left t
past_lines {columns = columns} no_line at left t =
    let all : left + 0 ≡ left = omega arith in
    let same : at ≡ at + 0 = omega arith in
    ap₂ (λ (n k : ℕ). sheet_fault columns k n t) all same
past_lines {columns = columns} (one_line {t = r} {e = e} {u = u} {k = k} x l ls) at left t =
    let up : at + 1 + k ≡ at + suc k = omega arith in
    let more : left + suc k ≡ suc (left + k) = omega arith in
    ap₂ (sheet_fault columns at) more (append_assoc r (e ++ u) t ∙ ap (λ (v : List ℕ). r ++ v) (append_assoc e u t))
    ∙ one_line_on at (left + k) (u ++ t) x l ∙ past_lines ls (at + 1) left t ∙ ap (λ (n : ℕ). sheet_fault columns n left t) up

-- a sheet of fewer rows is told as the first field behind it
short_told : {columns k : ℕ} {t : List ℕ} {cs ls : List (List ℕ)} → SheetText columns k t cs ls → (at left : ℕ) → sheet_fault columns at (suc left + k) t ≡ place (at + k) 1
unfolding sheet_fault
short_told {columns = columns} none at left =
    let all : suc left + 0 ≡ suc left = omega arith in
    let same : at ≡ at + 0 = omega arith in
    ap (λ (n : ℕ). sheet_fault columns at n []) all ∙ ap (λ (n : ℕ). place n 1) same
short_told {columns = columns} (line {t = r} {e = e} {k = k} {u = u} x l s) at left =
    let up : at + 1 + k ≡ at + suc k = omega arith in
    let more : suc left + suc k ≡ suc (suc left + k) = omega arith in
    ap₂ (sheet_fault columns at) more (append_assoc r e u) ∙ one_line_on at (suc left + k) u x l ∙ short_told s (at + 1) left ∙ ap (λ (n : ℕ). place n 1) up
short_told {columns = columns} (open_ended {b = b} {t = t} {cs = cs} {ls = ls} x) at left =
    let more : suc left + 1 ≡ suc (suc left) = omega arith in
    ap (λ (n : ℕ). sheet_fault columns at n (b ∷ t)) more ∙ one_row_on at (suc left) (omega arith) (subst (λ (v : List ℕ). Starts columns v cs ls []) (append-nil (b ∷ t)) (record-read x at_end))

-- the place that is wrong is told
pub place_told : {columns rows l number : ℕ} {before rest : List ℕ} → WrongSheet columns rows before rest l number → sheet_fault columns 1 rows (before ++ rest) ≡ place l number
unfolding sheet_fault
place_told {columns = columns} {rows = rows} (in_record {k = k} {number = number} {a = a} {b = b} {rest = rest} ls h some w) =
    let left = rows - suc k in
    let all : suc left + k ≡ rows = omega arith in
    let is = number_told w in
    let not_None = some_number w in
    let first : 1 + k ≡ suc k = omega arith in
    ap (sheet_fault columns 1 rows) (append_assoc a b rest) ∙ ap (λ (n : ℕ). sheet_fault columns 1 n (a ++ (b ++ rest))) (sym all) ∙ past_lines ls 1 (suc left) (b ++ rest)
    ∙ rw (ne_eqb (length (b ++ rest)) 0 (λ (z : length (b ++ rest) ≡ 0). omega arith), is, ne_eqb number 0 (λ (z : number ≡ 0). omega arith), first)
place_told {columns = columns} {rows = rows} (missing_record {k = k} {before = t} s h) =
    let left = rows - suc k in
    let all : suc left + k ≡ rows = omega arith in
    let first : 1 + k ≡ suc k = omega arith in
    ap (sheet_fault columns 1 rows) (append-nil t) ∙ ap (λ (n : ℕ). sheet_fault columns 1 n t) (sym all) ∙ short_told s 1 left ∙ ap (λ (n : ℕ). place n 1) first
place_told {columns = columns} {rows = rows} (surplus_record {b = b} {before = a} {tail = u} ls) =
    let first : 1 + rows ≡ suc rows = omega arith in
    ap (λ (n : ℕ). sheet_fault columns 1 n (a ++ b ∷ u)) (sym (zero-add rows)) ∙ past_lines ls 1 0 (b ∷ u)
    ∙ rw (ne_eqb (suc (length u)) 0 (λ (z : suc (length u) ≡ 0). omega arith), first)

-- ---- what is told is wrong

-- one field further
behind_a_field : {columns number : ℕ} {f c ns b rest : List ℕ} → FieldText f c ns → WrongRecord columns b rest number → WrongRecord (suc columns) (f ++ 44 ∷ b) rest (suc number)
behind_a_field x (bad_field fs h bad) = bad_field (one_field x fs) (omega arith) bad
behind_a_field x (missing_field r h s) = missing_field (comma x r) (omega arith) s
behind_a_field x (surplus_field r) = surplus_field (comma x r)

-- a record of which a field is told has that field wrong
record RowWrong (left column : ℕ) (t : List ℕ) : Type 0 where
  before : List ℕ
  rest : List ℕ
  n : ℕ
  all : t ≡ before ++ rest
  wrong : WrongRecord left before rest (suc n)
  told : record_fault is_cell column left t ≡ column + n

module _ (column left : ℕ) (t : List ℕ) where
  told_here : is_cell t ≡ false → record_fault is_cell column (suc left) t ≡ column + 0
  unfolding record_fault
  told_here e = rw e (omega arith)

  told_next : is_cell t ≡ true → goes_on left t ≡ false → record_fault is_cell column (suc left) t ≡ column + 1
  unfolding record_fault
  told_next e g = rw (e, g)

  told_later : is_cell t ≡ true → goes_on left t ≡ true → record_fault is_cell column (suc left) t ≡ record_fault is_cell (column + 1) left (after t)
  unfolding record_fault
  told_later e g = rw (e, g)

  -- what follows a field, by its separator
  by_more : {more answer : Bool} → more ≡ (field t).more → goes_on left t ≡ answer → cond more (ltb 0 left) (eqb left 0) ≡ answer
  unfolding goes_on
  by_more {answer = answer} m g = subst (λ (b : Bool). cond b (ltb 0 left) (eqb left 0) ≡ answer) (sym m) g

  bad_here : is_cell t ≡ false → RowWrong (suc left) column t
  bad_here e =
      record { before = []; rest = t; n = 0; all = refl; wrong = bad_field no_field (omega arith) (λ (f : FieldHere t). true≢false (sym (here_cell f) ∙ e)); told = told_here e }

  not_followed : is_cell t ≡ true → goes_on left t ≡ false → RowWrong (suc left) column t
  not_followed e g = let c = cell_text_lem t e in by c.ends refl c.is_field c.all
    where
      missing_next : {f x ns sep tail : List ℕ} → FieldText f x ns → Separator false sep tail → eqb left 0 ≡ false → t ≡ f ++ (sep ++ tail) → RowWrong (suc left) column t
      missing_next {f = f} {sep = sep} {tail = tail} x s some all =
          let h = eqb-false left 0 some in
          record { before = f; rest = sep ++ tail; n = 1; all = all; wrong = missing_field (last x) (omega arith) s; told = told_next e g }

      by : {more : Bool} {f x ns sep tail : List ℕ} → Separator more sep tail → more ≡ (field t).more → FieldText f x ns → t ≡ f ++ (sep ++ tail) → RowWrong (suc left) column t
      by at_end m x all = missing_next x at_end (by_more m g) all
      by {f = f} (at_comma {u = u}) m x all =
          let h = ltb-false 0 left (by_more m g) in
          let only : 1 ≡ suc left = omega arith in
          record { before = f; rest = 44 ∷ u; n = 1; all = all; wrong = subst (λ (n : ℕ). WrongRecord n f (44 ∷ u) 2) only (surplus_field (last x)); told = told_next e g }
      by (at_line l) m x all = missing_next x (at_line l) (by_more m g) all

  followed : is_cell t ≡ true → goes_on left t ≡ true → 1 ≤ record_fault is_cell (column + 1) left (after t) → RowWrong left (column + 1) (after t) → RowWrong (suc left) column t
  unfolding record_fault
  followed e g h w = let c = cell_text_lem t e in by c.ends refl refl c.is_field c.all
    where
      none_left : eqb left 0 ≡ true → RowWrong (suc left) column t
      none_left z = let none : 1 ≤ record_fault is_cell (column + 1) 0 (after t) = subst (λ (n : ℕ). 1 ≤ record_fault is_cell (column + 1) n (after t)) (eqb-true left 0 z) h in absurd (omega arith)

      by : {more : Bool} {f x ns sep tail : List ℕ} → Separator more sep tail → more ≡ (field t).more → tail ≡ after t → FieldText f x ns → t ≡ f ++ (sep ++ tail) → RowWrong (suc left) column t
      by at_end m p x all = none_left (by_more m g)
      by {f = f} at_comma m p x all =
          let up : column + 1 + w.n ≡ column + suc w.n = omega arith in
          record {
            before = f ++ 44 ∷ w.before;
            rest = w.rest;
            n = suc w.n;
            all = all ∙ ap (λ (v : List ℕ). f ++ 44 ∷ v) (p ∙ w.all) ∙ sym (append_assoc f (44 ∷ w.before) w.rest);
            wrong = behind_a_field x w.wrong;
            told = told_later e g ∙ w.told ∙ up;
          }
      by (at_line l) m p x all = none_left (by_more m g)

row_wrong : (left column : ℕ) (t : List ℕ) → 1 ≤ record_fault is_cell column left t → RowWrong left column t
unfolding record_fault
row_wrong zero column t h = absurd (omega arith)
row_wrong (suc left) column t h = go (is_cell t) refl (goes_on left t) refl h (row_wrong left (column + 1) (after t))
  where
    go : (p : Bool) → is_cell t ≡ p → (q : Bool) → goes_on left t ≡ q → 1 ≤ cond p (cond q (record_fault is_cell (column + 1) left (after t)) (column + 1)) column
        → (1 ≤ record_fault is_cell (column + 1) left (after t) → RowWrong left (column + 1) (after t)) → RowWrong (suc left) column t
    go true e true g h later = followed column left t e g h (later h)
    go true e false g h later = not_followed column left t e g
    go false e q g h later = bad_here column left t e

-- one line further
behind_a_line : {columns rows l number : ℕ} {r e before rest : List ℕ} {cs ls : List (List ℕ)} → RecordText columns r cs ls → LineEnd e
    → WrongSheet columns rows before rest l number → WrongSheet columns (suc rows) (r ++ (e ++ before)) rest (suc l) number
behind_a_line {columns = columns} {rows = rows} {r = r} {e = e} x y (in_record {k = k} {number = number} {a = a} {b = b} {rest = rest} ls h some w) =
    subst (λ (v : List ℕ). WrongSheet columns (suc rows) v rest (suc (suc k)) number) (append_assoc r (e ++ a) b ∙ ap (λ (v : List ℕ). r ++ v) (append_assoc e a b))
    (in_record (one_line x y ls) (omega arith) some w)
behind_a_line {columns = columns} {rows = rows} {r = r} {e = e} x y (missing_record {k = k} {before = t} s h) =
    subst (λ (v : List ℕ). WrongSheet columns (suc rows) v [] (suc (suc k)) 1) (append_assoc r e t) (missing_record (line x y s) (omega arith))
behind_a_line x y (surplus_record ls) = surplus_record (one_line x y ls)

-- a sheet of which a place is told is wrong there
pub record SheetWrong (columns rows at : ℕ) (t : List ℕ) : Type 0 where
  pub before : List ℕ
  pub rest : List ℕ
  pub n : ℕ
  pub number : ℕ
  pub all : t ≡ before ++ rest
  pub wrong : WrongSheet columns rows before rest (suc n) number
  pub told : sheet_fault columns at rows t ≡ place (at + n) number

module _ (k rows at b : ℕ) (u : List ℕ) where
  abbrev columns : ℕ
  columns = suc k

  abbrev t : List ℕ
  t = b ∷ u

  some : eqb (length t) 0 ≡ false
  some = ne_eqb (length t) 0 (λ (z : length t ≡ 0). omega arith)

  same_line : at ≡ at + 0
  same_line = omega arith

  -- bytes behind the last row
  too_many : SheetWrong columns 0 at t
  unfolding sheet_fault
  too_many = record { before = []; rest = t; n = 0; number = 1; all = refl; wrong = surplus_record no_line; told = rw some (ap (λ (n : ℕ). place n 1) same_line) }

  -- the record itself is wrong
  in_this : eqb (record_fault is_cell 1 columns t) 0 ≡ false → SheetWrong columns (suc rows) at t
  unfolding sheet_fault
  in_this e =
      let h = eqb-false (record_fault is_cell 1 columns t) 0 e in
      let w = row_wrong columns 1 t (omega arith) in
      let first : 1 + w.n ≡ suc w.n = omega arith in
      record {
        before = w.before;
        rest = w.rest;
        n = 0;
        number = suc w.n;
        all = w.all;
        wrong = in_record no_line (omega arith) (subst (λ (v : List ℕ). 1 ≤ length v) w.all (omega arith)) w.wrong;
        told = rw (some, e) (ap₂ place same_line (w.told ∙ first));
      }

  -- the record is right, and what follows it is wrong
  later_told : eqb (record_fault is_cell 1 columns t) 0 ≡ true → sheet_fault columns at (suc rows) t ≡ sheet_fault columns (at + 1) rows (past columns t)
  unfolding sheet_fault
  later_told e = rw (some, e)

  module _ (e : eqb (record_fault is_cell 1 columns t) 0 ≡ true) (h : 1 ≤ (sheet_fault columns (at + 1) rows (past columns t)).line) where
    in_later : SheetWrong columns rows (at + 1) (past columns t) → SheetWrong columns (suc rows) at t
    unfolding sheet_fault
    in_later w = let r = row_text_lem 1 k t (omega arith) (eqb-true (record_fault is_cell 1 columns t) 0 e) in by r.ends refl refl r.is_record r.all
      where
        -- no bytes behind it: either that was the last row, or the next is missing
        short : (left : ℕ) → rows ≡ left → {r : List ℕ} {cs ls : List (List ℕ)} → RecordText columns r cs ls → t ≡ r → [] ≡ past columns t → SheetWrong columns (suc rows) at t
        short zero z x all p =
            let none : 1 ≤ (sheet_fault columns (at + 1) 0 []).line = subst₂ (λ (n : ℕ) (v : List ℕ). 1 ≤ (sheet_fault columns (at + 1) n v).line) z (sym p) h in
            absurd (omega arith)
        short (suc left) z {cs = cs} {ls = ls} x all p =
            record {
              before = t;
              rest = [];
              n = 1;
              number = 1;
              all = sym (append-nil t);
              wrong = missing_record (open_ended (subst (λ (v : List ℕ). RecordText columns v cs ls) (sym all) x)) (omega arith);
              told = later_told e ∙ ap₂ (sheet_fault columns (at + 1)) z (sym p);
            }

        by : {more : Bool} {r sep tail : List ℕ} {cs ls : List (List ℕ)} → Separator more sep tail → more ≡ false → tail ≡ past columns t → RecordText columns r cs ls → t ≡ r ++ (sep ++ tail)
            → SheetWrong columns (suc rows) at t
        by {r = r} at_end m p x all = short rows refl x (all ∙ append-nil r) p
        by at_comma m p x all = absurd (true≢false m)
        by {r = r} {sep = sep} (at_line l) m p x all =
            let up : at + 1 + w.n ≡ at + suc w.n = omega arith in
            record {
              before = r ++ (sep ++ w.before);
              rest = w.rest;
              n = suc w.n;
              number = w.number;
              all =
                  all ∙ ap (λ (v : List ℕ). r ++ (sep ++ v)) (p ∙ w.all) ∙ ap (λ (v : List ℕ). r ++ v) (sym (append_assoc sep w.before w.rest))
                  ∙ sym (append_assoc r (sep ++ w.before) w.rest);
              wrong = behind_a_line x l w.wrong;
              told = later_told e ∙ w.told ∙ ap (λ (n : ℕ). place n w.number) up;
            }

-- a place that is told is wrong
pub sheet_wrong : (k rows at : ℕ) (t : List ℕ) → 1 ≤ (sheet_fault (suc k) at rows t).line → SheetWrong (suc k) rows at t
unfolding sheet_fault
sheet_wrong k zero at [] h = absurd (omega arith)
sheet_wrong k zero at (b ∷ u) h = too_many k 0 at b u
sheet_wrong k (suc rows) at [] h =
    record { before = []; rest = []; n = 0; number = 1; all = refl; wrong = missing_record none (omega arith); told = ap (λ (n : ℕ). place n 1) (let same : at ≡ at + 0 = omega arith in same) }
sheet_wrong k (suc rows) at (b ∷ u) h =
    go (eqb (record_fault is_cell 1 (suc k) (b ∷ u)) 0) refl
    (λ e. sheet_wrong k rows (at + 1) (past (suc k) (b ∷ u)) (subst (λ (p : Place). 1 ≤ p.line) (later_told k rows at b u e) h))
  where
    go : (q : Bool) → eqb (record_fault is_cell 1 (suc k) (b ∷ u)) 0 ≡ q → (eqb (record_fault is_cell 1 (suc k) (b ∷ u)) 0 ≡ true → SheetWrong (suc k) rows (at + 1) (past (suc k) (b ∷ u))) → SheetWrong (suc k) (suc rows) at (b ∷ u)
    go true e later = in_later k rows at b u e (subst (λ (p : Place). 1 ≤ p.line) (later_told k rows at b u e) h) (later e)
    go false e later = in_this k rows at b u e
