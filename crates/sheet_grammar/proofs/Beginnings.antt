-- What is right of a text that is refused begins a sheet of the grid: empty fields fill it up. Assumes nothing.
use Prim.Native.Nat.{ℕ, zero, suc, ◌+◌, ◌-◌, ◌≤◌}
use mathlib.Core.Path.{◌≡◌, sym, ◌∙◌, ap, subst}
use mathlib.Core.List.{List, [], ◌∷◌, ◌++◌, append_assoc, append-nil}
use native.Mathlib.Nat.{zero-add}
use native.Mathlib.Omega.{arith}
use Rattle.sheet_grammar.specs.Grammar.{nothing, bare, RecordText, last, comma, lf, SheetText, none, line, open_ended}
use Rattle.sheet_grammar.specs.FirstFault.{Fields, no_field, one_field, Lines, no_line, one_line, WrongRecord, bad_field, missing_field, surplus_field, WrongSheet, in_record, missing_record, surplus_record, BeginsSheet}

-- a text is a record, or a sheet, of the grammar
record IsRecord (columns : ℕ) (t : List ℕ) : Type 0 where
  contents : List (List ℕ)
  lists : List (List ℕ)
  is_record : RecordText columns t contents lists

record IsSheet (columns rows : ℕ) (t : List ℕ) : Type 0 where
  contents : List (List ℕ)
  lists : List (List ℕ)
  is_sheet : SheetText columns rows t contents lists

-- ---- filled up with empty fields

record SomeRecord (columns : ℕ) : Type 0 where
  text : List ℕ
  whole : IsRecord columns text

some_record : (columns : ℕ) → 1 ≤ columns → SomeRecord columns
some_record columns h = subst SomeRecord (let up : suc (columns - 1) ≡ columns = omega arith in up) (go (columns - 1))
  where
    go : (k : ℕ) → SomeRecord (suc k)
    go zero = record { text = []; whole = record { contents = _; lists = _; is_record = last (bare nothing) } }
    go (suc k) = let r = go k in record { text = 44 ∷ r.text; whole = record { contents = _; lists = _; is_record = comma (bare nothing) r.whole.is_record } }

record SomeSheet (columns rows : ℕ) : Type 0 where
  text : List ℕ
  whole : IsSheet columns rows text

some_sheet : (columns rows : ℕ) → 1 ≤ columns → SomeSheet columns rows
some_sheet columns zero h = record { text = []; whole = record { contents = []; lists = []; is_sheet = none } }
some_sheet columns (suc rows) h =
    let r = some_record columns h in
    let s = some_sheet columns rows h in
    record { text = r.text ++ 10 ∷ [] ++ s.text; whole = record { contents = _; lists = _; is_sheet = line r.whole.is_record lf s.whole.is_sheet } }

-- ---- one after the other

as_record : {columns n : ℕ} {t u : List ℕ} → columns ≡ n → t ≡ u → IsRecord columns t → IsRecord n u
as_record {columns = columns} {u = u} e p r = subst (λ (k : ℕ). IsRecord k u) e (subst (IsRecord columns) p r)

as_sheet : {columns rows n : ℕ} {t u : List ℕ} → rows ≡ n → t ≡ u → IsSheet columns rows t → IsSheet columns n u
as_sheet {columns = columns} {rows = rows} {u = u} e p s = subst (λ (k : ℕ). IsSheet columns k u) e (subst (IsSheet columns rows) p s)

-- fields with commas, then a record
fields_then : {k n : ℕ} {b t : List ℕ} → Fields k b → IsRecord n t → IsRecord (n + k) (b ++ t)
fields_then {n = n} {t = t} no_field r = subst (λ (m : ℕ). IsRecord m t) (let same : n ≡ n + 0 = omega arith in same) r
fields_then {n = n} {t = t} (one_field {t = f} {u = u} {k = k} x fs) r =
    let more = fields_then fs r in
    as_record (let up : suc (n + k) ≡ n + suc k = omega arith in up) (sym (append_assoc f (44 ∷ u) t)) (record { contents = _; lists = _; is_record = comma x more.is_record })

-- a record, a comma, then a record
record-then : {k n : ℕ} {b t : List ℕ} {cs ls : List (List ℕ)} → RecordText k b cs ls → IsRecord n t → IsRecord (n + k) (b ++ 44 ∷ t)
record-then {n = n} {t = t} (last {t = f} x) r =
    subst (λ (m : ℕ). IsRecord m (f ++ 44 ∷ t)) (let up : suc n ≡ n + 1 = omega arith in up) (record { contents = _; lists = _; is_record = comma x r.is_record })
record-then {n = n} {t = t} (comma {t = f} {k = k} {u = u} x y) r =
    let more = record-then y r in
    as_record (let up : suc (n + k) ≡ n + suc k = omega arith in up) (sym (append_assoc f (44 ∷ u) (44 ∷ t))) (record { contents = _; lists = _; is_record = comma x more.is_record })

-- lines, then a sheet
lines_then : {columns k n : ℕ} {a t : List ℕ} → Lines columns k a → IsSheet columns n t → IsSheet columns (n + k) (a ++ t)
lines_then {columns = columns} {n = n} {t = t} no_line s = subst (λ (m : ℕ). IsSheet columns m t) (let same : n ≡ n + 0 = omega arith in same) s
lines_then {n = n} {t = t} (one_line {t = r} {e = e} {u = u} {k = k} x y ls) s =
    let more = lines_then ls s in
    as_sheet (let up : suc (n + k) ≡ n + suc k = omega arith in up)
    (append_assoc r e (u ++ t) ∙ ap (λ (v : List ℕ). r ++ v) (sym (append_assoc e u t)) ∙ sym (append_assoc r (e ++ u) t))
    (record { contents = _; lists = _; is_sheet = line x y more.is_sheet })

-- ---- what is right before a place

record BeginsRecord (columns : ℕ) (b : List ℕ) : Type 0 where
  tail : List ℕ
  whole : IsRecord columns (b ++ tail)

right_of_record : {columns number : ℕ} {b rest : List ℕ} → WrongRecord columns b rest number → BeginsRecord columns b
right_of_record {columns = columns} (bad_field {k = k} {before = b} fs h bad) =
    let r = some_record (columns - k) (omega arith) in
    record { tail = r.text; whole = subst (λ (n : ℕ). IsRecord n (b ++ r.text)) (let all : columns - k + k ≡ columns = omega arith in all) (fields_then fs r.whole) }
right_of_record {columns = columns} (missing_field {k = k} {before = b} x h s) =
    let r = some_record (columns - k) (omega arith) in
    record { tail = 44 ∷ r.text; whole = subst (λ (n : ℕ). IsRecord n (b ++ 44 ∷ r.text)) (let all : columns - k + k ≡ columns = omega arith in all) (record-then x r.whole) }
right_of_record {columns = columns} (surplus_field {before = b} x) =
    record { tail = []; whole = subst (IsRecord columns) (sym (append-nil b)) (record { contents = _; lists = _; is_record = x }) }

begins : {columns rows : ℕ} {before : List ℕ} (tail : List ℕ) → IsSheet columns rows (before ++ tail) → BeginsSheet columns rows before
begins tail s = record { tail = tail; contents = s.contents; lists = s.lists; is_sheet = s.is_sheet }

-- a sheet of fewer rows goes on
sheet_goes_on : {columns k n : ℕ} {t : List ℕ} {cs ls : List (List ℕ)} → SheetText columns k t cs ls → SomeSheet columns n → BeginsSheet columns (n + k) t
sheet_goes_on {columns = columns} {n = n} none m = begins m.text (subst (λ (k : ℕ). IsSheet columns k m.text) (let same : n ≡ n + 0 = omega arith in same) m.whole)
sheet_goes_on {n = n} (line {t = r} {e = e} {k = k} {u = u} x y s) m =
    let more = sheet_goes_on s m in
    begins more.tail
    (as_sheet (let up : suc (n + k) ≡ n + suc k = omega arith in up) (sym (append_assoc (r ++ e) u more.tail)) (record { contents = _; lists = _; is_sheet = line x y more.is_sheet }))
sheet_goes_on {n = n} (open_ended {b = b} {t = r} x) m =
    begins (10 ∷ m.text)
    (as_sheet (let up : suc n ≡ n + 1 = omega arith in up) (append_assoc (b ∷ r) (10 ∷ []) m.text) (record { contents = _; lists = _; is_sheet = line x lf m.whole.is_sheet }))

-- what stands before a place that is wrong begins a sheet of the grid
pub right_before : {columns rows l number : ℕ} {before rest : List ℕ} → 1 ≤ columns → WrongSheet columns rows before rest l number → BeginsSheet columns rows before
right_before {columns = columns} {rows = rows} some (in_record {k = k} {a = a} {b = b} ls h bytes w) =
    let r = right_of_record w in
    let m = some_sheet columns (rows - suc k) some in
    let all : suc (rows - suc k) + k ≡ rows = omega arith in
    let this : IsSheet columns (suc (rows - suc k)) ((b ++ r.tail) ++ 10 ∷ [] ++ m.text) = record { contents = _; lists = _; is_sheet = line r.whole.is_record lf m.whole.is_sheet } in
    begins (r.tail ++ 10 ∷ [] ++ m.text)
    (as_sheet all
    (ap (λ (v : List ℕ). a ++ v) (append_assoc (b ++ r.tail) (10 ∷ []) m.text ∙ append_assoc b r.tail (10 ∷ m.text) ∙ ap (λ (v : List ℕ). b ++ v) (sym (append_assoc r.tail (10 ∷ []) m.text)))
    ∙ sym (append_assoc a b (r.tail ++ 10 ∷ [] ++ m.text)))
    (lines_then ls this))
right_before {columns = columns} {rows = rows} some (missing_record {k = k} {before = t} s h) =
    subst (λ (n : ℕ). BeginsSheet columns n t) (let all : rows - k + k ≡ rows = omega arith in all) (sheet_goes_on s (some_sheet columns (rows - k) some))
right_before {columns = columns} {rows = rows} some (surplus_record {before = a} ls) =
    begins [] (subst (λ (n : ℕ). IsSheet columns n (a ++ [])) (zero-add rows) (lines_then ls (record { contents = []; lists = []; is_sheet = none })))
