-- Laws of the test of a whole sheet: the turns of its loop over records, and that a sheet without a fault has cells only. Assumes nothing.
use Prim.Native.Nat.{ℕ, zero, suc, ◌+◌, ◌-◌, ◌*◌, ◌≤◌, ◌<◌}
use mathlib.Core.Bool.{Bool, true, false, cond}
use mathlib.Core.List.{List}
use mathlib.Core.Path.{◌≡◌, refl, ap, ◌∙◌}
use native.Mathlib.Nat.{add_comm, suc-mul, zero-mul, sub-zero}
use native.Mathlib.Omega.{arith}
use borrow.Author.Tests.{lt-ltb, eq-eqb, ne_eqb, eqb-true}
use lib.Dec.{eqb}
use lib.ListN.{length, drop, length-drop}
use Rattle.sheet_fields.specs.Runs.{past, bytes_in, record_fault}
use Rattle.sheet_fields.proofs.Runs.{place_within, past_at}
use Rattle.sheet_cells.specs.Cells.{is_cell, place, sheet_fault}
use Rattle.sheet_cells.specs.Checks.{count_in, are_cells, line_fault, record_at, sheet_check}
use Rattle.sheet_cells.specs.declared.cells.Record.{Record}
use Rattle.units.specs.declared.refusal.Refusal.{Refusal}
use Rattle.units.specs.declared.refusal.Refusal.TheVariants.{Field}
use Rattle.std.specs.Prelude.{Result, Ok, Err}
use Rattle.sheet_cells.proofs.Counts.{count_none, count_add, cells_add, count_within}
use Rattle.sheet_cells.proofs.Records.{fault_none}

-- ---- the first record

-- the first record's fault is the sheet's, and where it has none the others tell
module _ (columns line left : ℕ) (t : List ℕ) where
  pub sheet_step : sheet_fault columns line (suc left) t
      ≡ cond (eqb (line_fault columns t) 0) (sheet_fault columns (line + 1) left (past columns t)) (place line (line_fault columns t))
  unfolding sheet_fault line_fault
  sheet_step = go (eqb (length t) 0)
    where
      go : (e : Bool) → cond e (place line 1) (cond (eqb (record_fault is_cell 1 columns t) 0) (sheet_fault columns (line + 1) left (past columns t)) (place line (record_fault is_cell 1 columns t)))
          ≡ cond (eqb (cond e 1 (record_fault is_cell 1 columns t)) 0) (sheet_fault columns (line + 1) left (past columns t)) (place line (cond e 1 (record_fault is_cell 1 columns t)))
      go true = refl
      go false = refl

  -- a record without a fault has cells only
  record-cells : line_fault columns t ≡ 0 → are_cells columns t ≡ true
  unfolding line_fault
  record-cells e = go (eqb (length t) 0) e
    where
      go : (q : Bool) → cond q 1 (record_fault is_cell 1 columns t) ≡ 0 → are_cells columns t ≡ true
      go true k = absurd (omega arith)
      go false k = fault_none 0 columns t k

-- the sizes of so many records and one more
more_bays : (columns left : ℕ) → suc left * columns ≡ columns + left * columns
more_bays columns left = suc-mul left columns ∙ add_comm (left * columns) columns

-- a sheet without a fault has cells only
sheet_cells_from : (columns line left : ℕ) (t : List ℕ) → (sheet_fault columns (line + 1) left t).line ≡ 0 → are_cells (left * columns) t ≡ true
unfolding are_cells
sheet_cells_from columns line zero t e = rw (zero-mul columns)
sheet_cells_from columns line (suc left) t e = go (eqb (line_fault columns t) 0) refl (rw (sheet_step columns (line + 1) left t) at e)
    (λ h. sheet_cells_from columns (line + 1) left (past columns t) h)
  where
    go : (q : Bool) → eqb (line_fault columns t) 0 ≡ q
        → (cond q (sheet_fault columns (line + 1 + 1) left (past columns t)) (place (line + 1) (line_fault columns t))).line ≡ 0
        → ((sheet_fault columns (line + 1 + 1) left (past columns t)).line ≡ 0 → are_cells (left * columns) (past columns t) ≡ true)
        → are_cells (suc left * columns) t ≡ true
    go true k h more =
        let here = record-cells columns 0 0 t (eqb-true (line_fault columns t) 0 k) in
        rw (more_bays columns left, cells_add columns (left * columns) t, here) (more h)
    go false k h more = absurd (omega arith)

pub sheet_cells : (rows columns : ℕ) (text : List ℕ) → (sheet_fault columns 1 rows text).line ≡ 0 → are_cells (rows * columns) text ≡ true
sheet_cells rows columns text e = sheet_cells_from columns 0 rows text e

-- ---- the loop's turns

-- the records before `next` are the first ones of the sheet, and `count` is how many numbers they have
pub record InSheet (rows columns : ℕ) (text : List ℕ) (line next count : ℕ) : Type 0 where
  pub within : line ≤ rows
  pub inside : next ≤ length text
  pub few : count ≤ next
  pub fault : sheet_fault columns 1 rows text ≡ sheet_fault columns (line + 1) (rows - line) (drop next text)
  pub sum : count_in (rows * columns) text ≡ count + count_in ((rows - line) * columns) (drop next text)

pub sheet_starts : (rows columns : ℕ) (text : List ℕ) → InSheet rows columns text 0 0 0
sheet_starts rows columns text =
    record {
      within = omega arith;
      inside = omega arith;
      few = omega arith;
      fault = rw (sub-zero rows) refl;
      sum = rw (sub-zero rows) (omega arith);
    }

-- the sheet's check, by its first fault
refused_at : (rows columns : ℕ) (text : List ℕ) (line number : ℕ) → sheet_fault columns 1 rows text ≡ place (line + 1) number → Err (Field (line + 1) number) ≡ sheet_check rows columns text
refused_at rows columns text line number e = rw (e, lt-ltb 0 (line + 1) (omega arith))

module _ (rows columns : ℕ) (text : List ℕ) (line next count : ℕ) (s : InSheet rows columns text line next count) where
  module _ (k : rows ≤ line) where
    none_left : rows - line ≡ 0
    none_left = let w = s.within in omega arith

    pub sheet_surplus : next < length text → Err (Field (rows + 1) 1) ≡ sheet_check rows columns text
    unfolding sheet_fault
    sheet_surplus h =
        let w = s.within in
        let some : eqb (length (drop next text)) 0 ≡ false = ne_eqb (length (drop next text)) 0 (let l = length-drop next text in omega arith) in
        let all : line ≡ rows = omega arith in
        refused_at rows columns text rows 1 (s.fault ∙ rw (none_left, some, all))

    pub sheet_ends : length text ≤ next → Ok count ≡ sheet_check rows columns text
    unfolding sheet_fault
    sheet_ends h =
        let over : eqb (length (drop next text)) 0 ≡ true = eq-eqb (length (drop next text)) 0 (let l = length-drop next text in omega arith) in
        let found : sheet_fault columns 1 rows text ≡ place 0 0 = s.fault ∙ rw (none_left, over) in
        let sum : count_in (rows * columns) text ≡ count = s.sum ∙ rw (none_left, zero-mul columns, count_none (drop next text)) (omega arith) in
        rw (found, sum)

  module _ (more : line < rows) where
    abbrev left : ℕ
    left = rows - (line + 1)

    one_more : rows - line ≡ suc left
    one_more = omega arith

    abbrev here : List ℕ
    here = drop next text

    step : sheet_fault columns 1 rows text ≡ cond (eqb (line_fault columns here) 0) (sheet_fault columns (line + 1 + 1) left (past columns here)) (place (line + 1) (line_fault columns here))
    step = s.fault ∙ rw one_more (sheet_step columns (line + 1) left here)

    pub sheet_stops : (r : Refusal) → Err r ≡ record_at (line + 1) columns text next → Err r ≡ sheet_check rows columns text
    sheet_stops r e = go (eqb (line_fault columns here) 0) refl
      where
        go : (q : Bool) → eqb (line_fault columns here) 0 ≡ q → Err r ≡ sheet_check rows columns text
        go true k = let z : ◌≡◌ {A = Result Record Refusal} (Err r) (Ok (record { next = next + bytes_in columns here; count = count_in columns here })) = e ∙ rw k in absurd cc
        go false k =
            let z : ◌≡◌ {A = Result Record Refusal} (Err r) (Err (Field (line + 1) (line_fault columns here))) = e ∙ rw k in
            let same : r ≡ Field (line + 1) (line_fault columns here) = cc in
            rw same (refused_at rows columns text line (line_fault columns here) (step ∙ rw k))

    module _ (c : Record) (e : Ok c ≡ record_at (line + 1) columns text next) where
      found : (line_fault columns here ≡ 0) × (c ≡ record { next = next + bytes_in columns here; count = count_in columns here })
      found = go (eqb (line_fault columns here) 0) refl
        where
          go : (q : Bool) → eqb (line_fault columns here) 0 ≡ q → (line_fault columns here ≡ 0) × (c ≡ record { next = next + bytes_in columns here; count = count_in columns here })
          go true k =
              let z : ◌≡◌ {A = Result Record Refusal} (Ok c) (Ok (record { next = next + bytes_in columns here; count = count_in columns here })) = e ∙ rw k in
              (eqb-true (line_fault columns here) 0 k, cc)
          go false k = let z : ◌≡◌ {A = Result Record Refusal} (Ok c) (Err (Field (line + 1) (line_fault columns here))) = e ∙ rw k in absurd cc

      next_is : c.next ≡ next + bytes_in columns here
      next_is = ap (λ (d : Record). d.next) found.1

      count_is : c.count ≡ count_in columns here
      count_is = ap (λ (d : Record). d.count) found.1

      rest : drop c.next text ≡ past columns here
      rest = rw next_is (past_at columns text next)

      pub few_more : count + c.count ≤ c.next
      few_more =
          let few = s.few in
          let most = count_within columns here (record-cells columns 0 0 here found.0) in
          omega (arith, count_is, next_is)

      pub inside_more : c.next ≤ length text
      inside_more = place_within text next columns c.next s.inside next_is

      pub sheet_goes_on : InSheet rows columns text (line + 1) c.next (count + c.count)
      sheet_goes_on =
          record {
            within = omega arith;
            inside = inside_more;
            few = few_more;
            fault = step ∙ rw (eq-eqb (line_fault columns here) 0 found.0, rest);
            sum = s.sum ∙ rw (one_more, more_bays columns left, count_add columns (left * columns) here, rest, count_is) (omega arith);
          }
