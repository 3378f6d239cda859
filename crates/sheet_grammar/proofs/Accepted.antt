-- The reader accepts exactly the sheets of the grammar, with their contents and their lists. Assumes nothing.
use Prim.Native.Nat.{ℕ, zero, suc, ◌+◌, ◌*◌, ◌≤◌}
use mathlib.Core.Path.{◌≡◌, refl, sym, ◌∙◌, ap, subst, subst₂}
use mathlib.Core.Bool.{Bool, true, false, cond, true≢false}
use mathlib.Core.List.{List, [], ◌∷◌, ◌++◌, append_assoc, append-nil}
use native.Mathlib.Nat.{zero-mul, suc-mul, add_comm, zero-add, suc-add}
use native.Mathlib.Omega.{arith}
use lib.Dec.{eqb, ltb}
use lib.ListN.{length, length-append}
use borrow.Author.Tests.{ltb-false, eqb-true, eqb-false, lt-ltb, ne_eqb}
use Rattle.units.specs.declared.refusal.Refusal.TheVariants.{Field}
use Rattle.units.specs.Refusals.{passes}
use Rattle.units.proofs.Verdicts.{no_fault}
use Rattle.sheet_fields.specs.Fields.{field, content, after}
use Rattle.sheet_number_lists.specs.NumberLists.{is_list, list_in}
use Rattle.sheet_fields.specs.Runs.{contents, past, goes_on, record_fault}
use Rattle.sheet_fields.proofs.Runs.{contents_add}
use Rattle.sheet_cells.specs.Cells.{is_cell, cells, place, sheet_fault, sheet_verdict}
use Rattle.sheet_grammar.specs.Grammar.{RecordText, last, comma, LineEnd, lf, crlf, Separator, at_end, at_comma, at_line, SheetText, none, line, open_ended}
use Rattle.sheet_grammar.proofs.OneField.{Begins, field_read, cell_text_lem, cell_read}

-- ---- the fields after some fields

-- the lists of some fields are those of the first and of the rest
pub cells_add : (a b : ℕ) (t : List ℕ) → cells (a + b) t ≡ cells a t ++ cells b (past a t)
unfolding cells past
cells_add zero b t = rw (zero-add b)
cells_add (suc a) b t = rw (suc-add a b) (ap (λ (ls : List (List ℕ)). list_in (content t) ∷ ls) (cells_add a b (after t)))

-- one row more
pub one_row : (rows columns : ℕ) → suc rows * columns ≡ columns + rows * columns
one_row rows columns = suc-mul rows columns ∙ add_comm (rows * columns) columns

-- ---- what is accepted is of the grammar

-- a text is a record of the grammar with the contents and lists read, its end, and what is left
pub record Row (k : ℕ) (t : List ℕ) : Type 0 where
  pub text : List ℕ
  pub sep : List ℕ
  pub is_record : RecordText k text (contents k t) (cells k t)
  pub ends : Separator false sep (past k t)
  pub all : t ≡ text ++ (sep ++ past k t)

-- a row without a fault: its first field is a cell, followed as it should be, and so is the rest
record Sound (column left : ℕ) (t : List ℕ) : Type 0 where
  is_cell_holds : is_cell t ≡ true
  followed : goes_on left t ≡ true
  others : record_fault is_cell (column + 1) left (after t) ≡ 0

sound_first : (column left : ℕ) (t : List ℕ) → 1 ≤ column → record_fault is_cell column (suc left) t ≡ 0 → Sound column left t
unfolding record_fault
sound_first column left t h e = go (is_cell t) refl (goes_on left t) refl e
  where
    go : (p : Bool) → is_cell t ≡ p → (q : Bool) → goes_on left t ≡ q → cond p (cond q (record_fault is_cell (column + 1) left (after t)) (column + 1)) column ≡ 0 → Sound column left t
    go true c true g e = record { is_cell_holds = c; followed = g; others = e }
    go true c false g e = absurd (omega arith)
    go false c q g e = absurd (omega arith)

last_ends : (t : List ℕ) → goes_on 0 t ≡ true → (field t).more ≡ false
unfolding goes_on
last_ends t e = go (field t).more e
  where
    go : (m : Bool) → cond m (ltb 0 0) (eqb 0 0) ≡ true → m ≡ false
    go true f = absurd (true≢false (sym f))
    go false f = refl

other_goes_on : (left : ℕ) (t : List ℕ) → goes_on (suc left) t ≡ true → (field t).more ≡ true
unfolding goes_on
other_goes_on left t e = go (field t).more e
  where
    go : (m : Bool) → cond m (ltb 0 (suc left)) (eqb (suc left) 0) ≡ true → m ≡ true
    go true f = refl
    go false f = let z = eqb-true (suc left) 0 f in absurd (omega arith)

-- a comma is what a record goes on with
by_comma : {m : Bool} {sep tail : List ℕ} → Separator m sep tail → m ≡ true → sep ≡ 44 ∷ []
by_comma at_end e = absurd (true≢false (sym e))
by_comma at_comma e = refl
by_comma (at_line l) e = absurd (true≢false (sym e))

pub row_text_lem : (column left : ℕ) (t : List ℕ) → 1 ≤ column → record_fault is_cell column (suc left) t ≡ 0 → Row (suc left) t
unfolding contents cells past
row_text_lem column zero t h e =
    let s = sound_first column zero t h e in
    let c = cell_text_lem t s.is_cell_holds in
    record {
      text = c.text;
      sep = c.sep;
      is_record = last c.is_field;
      ends = subst (λ (m : Bool). Separator m c.sep (after t)) (last_ends t s.followed) c.ends;
      all = c.all;
    }
row_text_lem column (suc left) t h e =
    let s = sound_first column (suc left) t h e in
    let c = cell_text_lem t s.is_cell_holds in
    let r = row_text_lem (column + 1) left (after t) (omega arith) s.others in
    let comma_there = by_comma c.ends (other_goes_on left t s.followed) in
    record {
      text = c.text ++ 44 ∷ r.text;
      sep = r.sep;
      is_record = comma c.is_field r.is_record;
      ends = r.ends;
      all =
          c.all ∙ ap (λ (u : List ℕ). c.text ++ (u ++ after t)) comma_there ∙ ap (λ (u : List ℕ). c.text ++ 44 ∷ u) r.all
          ∙ sym (append_assoc c.text (44 ∷ r.text) (r.sep ++ past (suc left) (after t)));
    }

-- a sheet without a fault
abbrev pub NoFault : (columns at rows : ℕ) → List ℕ → Type 0
NoFault columns at rows t = (sheet_fault columns at rows t).line ≡ 0

no_record_left : (columns at : ℕ) (t : List ℕ) → 1 ≤ at → NoFault columns at 0 t → t ≡ []
unfolding sheet_fault
no_record_left columns at [] h e = refl
no_record_left columns at (b ∷ t) h e = absurd (omega (arith, sym (ap (λ (s : Bool). (cond s (place 0 0) (place at 1)).line) (ne_eqb (suc (length t)) 0 (λ (z : suc (length t) ≡ 0). omega arith))) ∙ e))

record FirstRow (columns at rows : ℕ) (t : List ℕ) : Type 0 where
  some : 1 ≤ length t
  no_fault : record_fault is_cell 1 columns t ≡ 0
  others : NoFault columns (at + 1) rows (past columns t)

first_row : (columns at rows : ℕ) (t : List ℕ) → 1 ≤ at → NoFault columns at (suc rows) t → FirstRow columns at rows t
unfolding sheet_fault
first_row columns at rows t h e = go (eqb (length t) 0) refl (eqb (record_fault is_cell 1 columns t) 0) refl e
  where
    go : (p : Bool) → eqb (length t) 0 ≡ p → (q : Bool) → eqb (record_fault is_cell 1 columns t) 0 ≡ q
        → (cond p (place at 1) (cond q (sheet_fault columns (at + 1) rows (past columns t)) (place at (record_fault is_cell 1 columns t)))).line ≡ 0 → FirstRow columns at rows t
    go true f q g e = absurd (omega arith)
    go false f true g e = let some = eqb-false (length t) 0 f in record { some = omega arith; no_fault = eqb-true (record_fault is_cell 1 columns t) 0 g; others = e }
    go false f false g e = absurd (omega arith)

-- a sheet text of the contents and lists read
abbrev Accepted : (columns rows : ℕ) → List ℕ → Type 0
Accepted columns rows t = SheetText columns rows t (contents (rows * columns) t) (cells (rows * columns) t)

module _ (columns rows : ℕ) (t : List ℕ) where
  split_contents : contents (suc rows * columns) t ≡ contents columns t ++ contents (rows * columns) (past columns t)
  split_contents = ap (λ (n : ℕ). contents n t) (one_row rows columns) ∙ contents_add columns (rows * columns) t

  split_cells : cells (suc rows * columns) t ≡ cells columns t ++ cells (rows * columns) (past columns t)
  split_cells = ap (λ (n : ℕ). cells n t) (one_row rows columns) ∙ cells_add columns (rows * columns) t

no_rows : (columns : ℕ) (t : List ℕ) → (contents (0 * columns) t ≡ []) × (cells (0 * columns) t ≡ [])
unfolding contents cells
no_rows columns t = rw (zero-mul columns) (refl, refl)

-- a last record that has bytes needs no line ending
only_record : (columns : ℕ) (t : List ℕ) → 1 ≤ length t → RecordText columns t (contents columns t) (cells columns t) → Accepted columns 1 t
only_record columns [] some r = absurd (omega arith)
only_record columns (b ∷ u) some r =
    let t = b ∷ u in
    subst₂ (λ (cs ls : List (List ℕ)). SheetText columns 1 t cs ls)
    (sym (split_contents columns 0 t ∙ ap (λ (cs : List (List ℕ)). contents columns t ++ cs) (no_rows columns (past columns t)).0 ∙ append-nil (contents columns t)))
    (sym (split_cells columns 0 t ∙ ap (λ (ls : List (List ℕ)). cells columns t ++ ls) (no_rows columns (past columns t)).1 ∙ append-nil (cells columns t)))
    (open_ended r)

-- no record comes where no bytes are left
none_left : (columns at rows : ℕ) → 1 ≤ at → NoFault columns at rows [] → rows ≡ 0
none_left columns at zero h e = refl
none_left columns at (suc rows) h e = let some = (first_row columns at rows [] h e).some in absurd (omega arith)

module _ (columns at rows : ℕ) (t : List ℕ) (h : 1 ≤ at) (f : FirstRow columns at rows t) (rest : Accepted columns rows (past columns t)) where
  with_rest : {m : Bool} {sep tail : List ℕ} (text : List ℕ) → Separator m sep tail → m ≡ false → tail ≡ past columns t → t ≡ text ++ (sep ++ tail)
      → RecordText columns text (contents columns t) (cells columns t) → Accepted columns (suc rows) t
  with_rest text at_end e p all r =
      let others : NoFault columns (at + 1) rows [] = subst (NoFault columns (at + 1) rows) (sym p) f.others in
      let only : rows ≡ 0 = none_left columns (at + 1) rows (omega arith) others in
      subst (λ (k : ℕ). Accepted columns (suc k) t) (sym only)
      (only_record columns t f.some (subst (λ (u : List ℕ). RecordText columns u (contents columns t) (cells columns t)) (sym (append-nil text) ∙ sym all) r))
  with_rest text at_comma e p all r = absurd (true≢false e)
  with_rest text (at_line {e = ending} {u = tail} l) e p all r =
      let ds = contents (rows * columns) (past columns t) in
      let ms = cells (rows * columns) (past columns t) in
      let tail_read : SheetText columns rows tail ds ms = subst (λ (u : List ℕ). SheetText columns rows u ds ms) (sym p) rest in
      let all_of_it : text ++ ending ++ tail ≡ t = append_assoc text ending tail ∙ sym all in
      subst (λ (u : List ℕ). SheetText columns (suc rows) u (contents (suc rows * columns) t) (cells (suc rows * columns) t)) all_of_it
      (subst₂ (λ (cs ls : List (List ℕ)). SheetText columns (suc rows) (text ++ ending ++ tail) cs ls) (sym (split_contents columns rows t)) (sym (split_cells columns rows t))
      (line r l tail_read))

no_sheet : (columns : ℕ) → Accepted columns 0 []
no_sheet columns = subst₂ (λ (cs ls : List (List ℕ)). SheetText columns 0 [] cs ls) (sym (no_rows columns []).0) (sym (no_rows columns []).1) none

sheet_from : (k at rows : ℕ) (t : List ℕ) → 1 ≤ at → NoFault (suc k) at rows t → Accepted (suc k) rows t
sheet_from k at zero t h e = subst (Accepted (suc k) 0) (sym (no_record_left (suc k) at t h e)) (no_sheet (suc k))
sheet_from k at (suc rows) t h e =
    let f = first_row (suc k) at rows t h e in
    let r = row_text_lem 1 k t (omega arith) f.no_fault in
    with_rest (suc k) at rows t h f (sheet_from k (at + 1) rows (past (suc k) t) (omega arith) f.others) r.text r.ends refl refl r.all r.is_record

-- a text without a fault is a sheet of the grammar, with the contents and the lists of its fields in reading order
pub sound : (columns at rows : ℕ) (t : List ℕ) → 1 ≤ columns → 1 ≤ at → NoFault columns at rows t
    → SheetText columns rows t (contents (rows * columns) t) (cells (rows * columns) t)
sound zero at rows t some h e = absurd (omega arith)
sound (suc k) at rows t some h e = sheet_from k at rows t h e

-- ---- what is of the grammar is accepted

-- a text begins with a record of these contents and lists
pub record Starts (k : ℕ) (t : List ℕ) (cs ls : List (List ℕ)) (tail : List ℕ) : Type 0 where
  pub no_fault : (column : ℕ) → record_fault is_cell column k t ≡ 0
  pub has : contents k t ≡ cs
  pub lists : cells k t ≡ ls
  pub leaves : past k t ≡ tail

pub some_field : {k : ℕ} {t : List ℕ} {cs ls : List (List ℕ)} → RecordText k t cs ls → 1 ≤ k
some_field (last f) = omega arith
some_field (comma {k = k} f r) = omega arith

-- a cell that is followed as it should be, and the rest of its record
then_rest : {t c ns tail : List ℕ} {m : Bool} (k : ℕ) {cs ls : List (List ℕ)} {end : List ℕ} → is_list c ≡ true → list_in c ≡ ns → Begins t m c tail
    → cond m (ltb 0 k) (eqb k 0) ≡ true → Starts k tail cs ls end → Starts (suc k) t (c ∷ cs) (ns ∷ ls) end
unfolding record_fault contents cells past is_cell goes_on
then_rest {t = t} {c = c} {tail = tail} {m = m} k l n b g s =
    record {
      no_fault = λ column. rw (is_cell_holds, followed, b.leaves) (s.no_fault (column + 1));
      has = rw (b.has, b.leaves, s.has);
      lists = rw (b.has, n, b.leaves, s.lists);
      leaves = rw b.leaves s.leaves;
    }
  where
    is_cell_holds : is_cell t ≡ true
    is_cell_holds = rw (b.sound, b.has) l

    followed : goes_on k t ≡ true
    followed = rw b.goes_on g

no_field : (t : List ℕ) → Starts 0 t [] [] t
unfolding record_fault contents cells past
no_field t = record { no_fault = λ column. refl; has = refl; lists = refl; leaves = refl }

-- a record of the grammar, ended as a record may be, is read with its contents and lists
pub record-read : {k : ℕ} {t : List ℕ} {cs ls : List (List ℕ)} → RecordText k t cs ls → {sep tail : List ℕ} → Separator false sep tail → Starts k (t ++ (sep ++ tail)) cs ls tail
record-read (last f) {tail = tail} s = let l = cell_read f in then_rest 0 l.0 l.1 (field_read f s) refl (no_field tail)
record-read (comma {t = t} {c = c} {ns = ns} {k = k} {u = u} {cs = cs} {ls = ls} f r) {sep = sep} {tail = tail} s =
    let l = cell_read f in
    let some = some_field r in
    subst (λ (v : List ℕ). Starts (suc k) v (c ∷ cs) (ns ∷ ls) tail) (sym (append_assoc t (44 ∷ u) (sep ++ tail)))
    (then_rest k l.0 l.1 (field_read f (at_comma {u = u ++ (sep ++ tail)})) (lt-ltb 0 k (omega arith)) (record-read r s))

-- a text is read without a fault as rows of these contents and lists
pub record Reads (columns rows : ℕ) (t : List ℕ) (cs ls : List (List ℕ)) : Type 0 where
  pub no_fault : (at : ℕ) → sheet_fault columns at rows t ≡ place 0 0
  pub has : contents (rows * columns) t ≡ cs
  pub lists : cells (rows * columns) t ≡ ls

no_row : (columns : ℕ) → Reads columns 0 [] [] []
unfolding sheet_fault
no_row columns = record { no_fault = λ at. refl; has = (no_rows columns []).0; lists = (no_rows columns []).1 }

then_rows : {columns rows : ℕ} {t tail : List ℕ} {cs ls ds ms : List (List ℕ)} → 1 ≤ length t → Starts columns t cs ls tail → Reads columns rows tail ds ms
    → Reads columns (suc rows) t (cs ++ ds) (ls ++ ms)
unfolding sheet_fault
then_rows {columns = columns} {rows = rows} {t = t} some s r =
    record {
      no_fault = λ at. rw (ne_eqb (length t) 0 (λ (z : length t ≡ 0). omega arith), s.no_fault 1, s.leaves) (r.no_fault (at + 1));
      has = split_contents columns rows t ∙ rw (s.has, s.leaves, r.has) refl;
      lists = split_cells columns rows t ∙ rw (s.lists, s.leaves, r.lists) refl;
    }

pub some_byte : {e : List ℕ} → LineEnd e → 1 ≤ length e
some_byte lf = omega arith
some_byte crlf = omega arith

-- a sheet of the grammar has no fault, and its contents and lists are those read
pub complete : {columns rows : ℕ} {t : List ℕ} {cs ls : List (List ℕ)} → SheetText columns rows t cs ls → Reads columns rows t cs ls
complete {columns = columns} none = no_row columns
complete {columns = columns} (line {t = t} {cs = cs} {ls = ls} {e = e} {k = k} {u = u} {ds = ds} {ms = ms} r l s) =
    let bytes = some_byte l in
    subst (λ (v : List ℕ). Reads columns (suc k) v (cs ++ ds) (ls ++ ms)) (sym (append_assoc t e u))
    (then_rows (omega (arith, length-append t (e ++ u), length-append e u)) (record-read r (at_line {u = u} l)) (complete s))
complete {columns = columns} (open_ended {b = b} {t = t} {cs = cs} {ls = ls} r) =
    subst₂ (λ (ds ms : List (List ℕ)). Reads columns 1 (b ∷ t) ds ms) (append-nil cs) (append-nil ls)
    (then_rows (omega arith) (subst (λ (v : List ℕ). Starts columns v cs ls []) (append-nil (b ∷ t)) (record-read r at_end)) (no_row columns))

-- ---- the same of the verdict, and one meaning for each text

-- a sheet that passes is one of the grammar
pub passed_is_sheet : (rows columns : ℕ) (t : List ℕ) → 1 ≤ columns → sheet_verdict rows columns t ≡ passes
    → SheetText columns rows t (contents (rows * columns) t) (cells (rows * columns) t)
passed_is_sheet rows columns t some e =
    let at = (sheet_fault columns 1 rows t).line in
    let first = ltb-false 0 at (no_fault (ltb 0 at) (Field at (sheet_fault columns 1 rows t).field) e) in
    sound columns 1 rows t some (omega arith) (omega arith)

-- and one of the grammar passes
pub sheet_passes : {columns rows : ℕ} {t : List ℕ} {cs ls : List (List ℕ)} → SheetText columns rows t cs ls → sheet_verdict rows columns t ≡ passes
sheet_passes s = rw ((complete s).no_fault 1)

-- a text has one reading: the grammar gives it no other contents, and no other lists
pub one_reading : {columns rows : ℕ} {t : List ℕ} {cs ls ds ms : List (List ℕ)} → SheetText columns rows t cs ls → SheetText columns rows t ds ms → (cs ≡ ds) × (ls ≡ ms)
one_reading p q = (sym (complete p).has ∙ (complete q).has, sym (complete p).lists ∙ (complete q).lists)
