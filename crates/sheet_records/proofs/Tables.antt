-- Laws of the test of a whole table: the turns of its loop over records. Assumes nothing.
use Prim.Native.Nat.{ℕ, zero, suc, ◌+◌, ◌-◌, ◌≤◌, ◌<◌}
use mathlib.Core.Bool.{Bool, true, false, cond}
use mathlib.Core.List.{List}
use mathlib.Core.Path.{◌≡◌, refl, sym, ap, ◌∙◌}
use native.Mathlib.Nat.{sub-zero}
use native.Mathlib.Omega.{arith}
use borrow.Author.Tests.{eq-eqb, ne_eqb}
use Rattle.std.specs.Prelude.{Result, Ok, Err}
use lib.Dec.{eqb}
use lib.ListN.{length, drop, length-drop}
use Rattle.sheet_fields.specs.Runs.{past, bytes_in, is_sound, record_fault}
use Rattle.sheet_fields.proofs.Runs.{past_at}
use Rattle.sheet_fields.specs.declared.Place.{Place}
use Rattle.sheet_records.specs.Tables.{place, table_answer, sound, faulty, table_from, table_check, record_at}

-- the records before `next` are the table's first ones, without a fault
pub record InTable (width most : ℕ) (text : List ℕ) (next records : ℕ) : Type 0 where
  pub within : records ≤ most
  pub left : table_check width most text ≡ table_from width records (most - records) (drop next text)

pub table_starts : (width most : ℕ) (text : List ℕ) → InTable width most text 0 0
table_starts width most text = record { within = omega arith; left = rw (sub-zero most) refl }

fault_answered : (records field : ℕ) → Err (place (records + 1) field) ≡ table_answer (faulty (records + 1) field)
fault_answered records field = rw (ne_eqb (records + 1) 0 (λ (z : records + 1 ≡ 0). omega arith))

-- where no bytes are left, the table ends
over : (width records left : ℕ) (t : List ℕ) → length t ≡ 0 → table_from width records left t ≡ sound records
unfolding table_from
over width records zero t e = rw (eq-eqb (length t) 0 e)
over width records (suc left) t e = rw (eq-eqb (length t) 0 e)

module _ (width most : ℕ) (text : List ℕ) (next records : ℕ) (s : InTable width most text next records) where
  pub table_ends : length text ≤ next → sound records ≡ table_check width most text
  table_ends k = sym (s.left ∙ over width records (most - records) (drop next text) (let l = length-drop next text in omega arith))

  -- after the last turn as many records were passed as are allowed
  pub table_full : most ≤ records → length text ≤ next → sound most ≡ table_check width most text
  table_full k e =
      let in_table = s.within in
      let same : most ≡ records = omega arith in ap sound same ∙ table_ends e

  module _ (some : next < length text) where
    abbrev here : List ℕ
    here = drop next text

    bytes : eqb (length here) 0 ≡ false
    bytes = ne_eqb (length here) 0 (let l = length-drop next text in omega arith)

    pub table_too_long : most ≤ records → Err (place (most + 1) 1) ≡ table_answer (table_check width most text)
    unfolding table_from
    table_too_long k =
        let in_table = s.within in
        let same : most ≡ records = omega arith in
        let none : most - records ≡ 0 = omega arith in
        ap (λ (n : ℕ). Err (place (n + 1) 1)) same ∙ fault_answered records 1 ∙ ap table_answer (sym (s.left ∙ rw (none, bytes)))

    module _ (more : records < most) where
      room : records + 1 ≤ most
      room = omega arith

      step : table_check width most text
          ≡ cond (eqb (record_fault is_sound 1 width here) 0) (table_from width (records + 1) (most - (records + 1)) (past width here)) (faulty (records + 1) (record_fault is_sound 1 width here))
      unfolding table_from
      step = let one_more : most - records ≡ suc (most - (records + 1)) = omega arith in s.left ∙ rw (one_more, bytes)

      pub table_stops : (p : Place) → Err p ≡ record_at (records + 1) width text next → Err p ≡ table_answer (table_check width most text)
      table_stops p e = go (eqb (record_fault is_sound 1 width here) 0) refl
        where
          go : (q : Bool) → eqb (record_fault is_sound 1 width here) 0 ≡ q → Err p ≡ table_answer (table_check width most text)
          go true k = let z : ◌≡◌ {A = Result ℕ Place} (Err p) (Ok (next + bytes_in width here)) = e ∙ rw k in absurd cc
          go false k = e ∙ rw k (fault_answered records (record_fault is_sound 1 width here) ∙ ap table_answer (sym (step ∙ rw k)))

      pub table_goes_on : (far : ℕ) → Ok far ≡ record_at (records + 1) width text next → InTable width most text far (records + 1)
      table_goes_on far e = go (eqb (record_fault is_sound 1 width here) 0) refl
        where
          go : (q : Bool) → eqb (record_fault is_sound 1 width here) 0 ≡ q → InTable width most text far (records + 1)
          go true k =
              let z : ◌≡◌ {A = Result ℕ Place} (Ok far) (Ok (next + bytes_in width here)) = e ∙ rw k in
              let from_here : far ≡ next + bytes_in width here = cc in
              let rest : drop far text ≡ past width here = rw from_here (past_at width text next) in
              record { within = room; left = step ∙ rw (k, rest) }
          go false k = let z : ◌≡◌ {A = Result ℕ Place} (Ok far) (Err (place (records + 1) (record_fault is_sound 1 width here))) = e ∙ rw k in absurd cc

-- ---- how many records are found

found_few : (width records left : ℕ) (t : List ℕ) → (table_from width records left t).records ≤ records + left
unfolding table_from
found_few width records zero t = go (eqb (length t) 0)
  where
    go : (q : Bool) → (cond q (sound records) (faulty (records + 1) 1)).records ≤ records + 0
    go true = omega arith
    go false = omega arith
found_few width records (suc left) t = go (eqb (length t) 0) (eqb (record_fault is_sound 1 width t) 0) (found_few width (records + 1) left (past width t))
  where
    go : (p q : Bool) → (table_from width (records + 1) left (past width t)).records ≤ records + 1 + left
        → (cond p (sound records) (cond q (table_from width (records + 1) left (past width t)) (faulty (records + 1) (record_fault is_sound 1 width t)))).records ≤ records + suc left
    go true q h = omega arith
    go false true h = omega arith
    go false false h = omega arith

-- no more than are allowed
pub records_few : (width most : ℕ) (t : List ℕ) → (table_check width most t).records ≤ most
records_few width most t = let h = found_few width 0 most t in omega arith

pub answer_few : (width most : ℕ) (t : List ℕ) (records : ℕ) → Ok records ≡ table_answer (table_check width most t) → records ≤ most
answer_few width most t records e = go (eqb (table_check width most t).line 0) refl
  where
    go : (q : Bool) → eqb (table_check width most t).line 0 ≡ q → records ≤ most
    go true k = let z : ◌≡◌ {A = Result ℕ Place} (Ok records) (Ok (table_check width most t).records) = e ∙ rw k in
        let same : records ≡ (table_check width most t).records = cc in
        rw same (records_few width most t)
    go false k = let z : ◌≡◌ {A = Result ℕ Place} (Ok records) (Err (place (table_check width most t).line (table_check width most t).field)) = e ∙ rw k in absurd cc
