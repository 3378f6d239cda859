-- A text in the writer's form, read and written again, is the same text. Assumes nothing.
use Prim.Native.Nat.{ℕ, suc, ◌+◌, ◌-◌, ◌*◌, ◌^◌, ◌≤◌, ◌<◌, min}
use mathlib.Core.Path.{◌≡◌, refl, sym, ◌∙◌, ap, ap₂, subst, subst₂}
use mathlib.Core.Bool.{not}
use mathlib.Core.List.{List, [], ◌∷◌, ◌++◌, append_assoc, append-nil}
use native.Mathlib.Nat.{zero-add, add-zero}
use native.Mathlib.Omega.{arith}
use lib.Dec.{eqb, ltb}
use lib.ListN.{length, get_or, length-append, get_or-append}
use lib.Seq.{get_or-append-add}
use borrow.Author.Tests.{le-ltb}
use Rattle.units.specs.Refusals.{Verdict, passes, refuse_if, if_passes, ◌▷◌, answer}
use Rattle.units.specs.declared.refusal.Refusal.TheVariants.{Shape, NoRoom}
use Rattle.std.specs.Prelude.{Ok}
use Rattle.units.proofs.Verdicts.{first_passes}
use Rattle.bay_lists.specs.Lists.{Constraints, list_of, lists}
use Rattle.sheet_cells.specs.Cells.{all_tiles, starts, front, sheet_verdict}
use Rattle.sheet_text.specs.Written.{spaced, separator, row_text, sheet_text}
use Rattle.sheet.specs.Read.{grid_verdict, sheet_lists, tile_count, read_verdict, read_answer}
use Rattle.sheet.specs.Write.{sheet_bytes, bytes_needed, write_verdict, write_answer, text_after}
use Rattle.sheet_grammar.specs.Grammar.{NumbersText, one, another, ListText, nothing, numbers}
use Rattle.sheet_grammar.specs.AsWritten.{WrittenRecord, last_field, field_before, WrittenSheet, no_record, ended_record, ComesBack}
use Rattle.sheet_grammar.proofs.Numbers.{plain_is_text}
use Rattle.sheet_grammar.proofs.Offsets.{list_of_starts}
use Rattle.sheet_grammar.proofs.Accepted.{complete}
use Rattle.sheet_grammar.proofs.Calls.{counted, read_offsets, read_tiles}
use Rattle.sheet_grammar.proofs.RoundTrip.{spaced_first, spaced_next, none_spaced, written_is_sheet}
use Rattle.sheet_grammar.proofs.FromSheetToSet.{sheet_is_shaped}

-- ---- a list of the grammar is written as it stands

-- a space goes before numbers that are not the first
behind_a_space : {t ns : List ℕ} → NumbersText t ns → spaced 1 ns ≡ 32 ∷ spaced 0 ns
behind_a_space (one w e) = spaced_next _ []
behind_a_space (another w e {ns = ns} r) = spaced_next _ ns

numbers_again : {t ns : List ℕ} → NumbersText t ns → spaced 0 ns ≡ t
numbers_again (one w e) = spaced_first _ [] ∙ ap₂ (λ (u v : List ℕ). u ++ v) (sym (plain_is_text w e)) none_spaced ∙ append-nil w
numbers_again (another w e {ns = ns} r) =
    spaced_first _ ns ∙ ap₂ (λ (u v : List ℕ). u ++ v) (sym (plain_is_text w e)) (behind_a_space r ∙ ap (λ (u : List ℕ). 32 ∷ u) (numbers_again r))

list_again : {t ns : List ℕ} → ListText t ns → spaced 0 ns ≡ t
unfolding spaced
list_again nothing = refl
list_again (numbers n) = numbers_again n

-- ---- the records

module _ (c : Constraints) where
  -- the bays from one on have these lists
  record Has (bay : ℕ) (ls : List (List ℕ)) : Type 0 where
    each : (i : ℕ) → i < length ls → list_of c (bay + i) ≡ get_or ls i []

  first_has : {bay : ℕ} {l : List ℕ} {ls : List (List ℕ)} → Has bay (l ∷ ls) → list_of c bay ≡ l
  first_has {bay = bay} h = ap (list_of c) (sym (add-zero bay)) ∙ h.each 0 (omega arith)

  rest_has : {bay : ℕ} {l : List ℕ} {ls : List (List ℕ)} → Has bay (l ∷ ls) → Has (bay + 1) ls
  rest_has {bay = bay} h = record { each = λ i less. ap (list_of c) (up i) ∙ h.each (suc i) (omega (arith, less)) }
    where
      up : (i : ℕ) → bay + 1 + i ≡ bay + suc i
      up i = omega arith

  front_has : (bay : ℕ) (ls ms : List (List ℕ)) → Has bay (ls ++ ms) → Has bay ls
  front_has bay ls ms h = record { each = λ i less. h.each i (omega (arith, length-append ls ms, less)) ∙ get_or-append ls ms [] i less }

  back_has : (bay : ℕ) (ls ms : List (List ℕ)) → Has bay (ls ++ ms) → Has (bay + length ls) ms
  back_has bay ls ms h = record { each = λ i less. ap (list_of c) (up i) ∙ h.each (length ls + i) (omega (arith, length-append ls ms, less)) ∙ get_or-append-add ls ms i [] }
    where
      up : (i : ℕ) → bay + length ls + i ≡ bay + (length ls + i)
      up i = omega arith

  some_field : {k : ℕ} {t : List ℕ} {cs ls : List (List ℕ)} → WrittenRecord k t cs ls → separator k ≡ 44 ∷ []
  unfolding separator
  some_field (last_field l) = refl
  some_field (field_before l r) = refl

  record-again : {k : ℕ} {t : List ℕ} {cs ls : List (List ℕ)} → WrittenRecord k t cs ls → (bay : ℕ) → Has bay ls → row_text c bay k ≡ t ++ 13 ∷ 10 ∷ []
  unfolding row_text separator
  record-again (last_field l) bay h = append-nil (spaced 0 (list_of c bay) ++ 13 ∷ 10 ∷ []) ∙ ap (λ (u : List ℕ). u ++ 13 ∷ 10 ∷ []) (ap (spaced 0) (first_has h) ∙ list_again l)
  record-again (field_before {t = t} {u = u} {k = k} l r) bay h =
      ap₂ (λ (v w : List ℕ). v ++ separator k ++ w) (ap (spaced 0) (first_has h) ∙ list_again l) (record-again r (bay + 1) (rest_has h))
      ∙ ap (λ (s : List ℕ). t ++ s ++ (u ++ 13 ∷ 10 ∷ [])) (some_field r)
      ∙ append_assoc t (44 ∷ []) (u ++ 13 ∷ 10 ∷ []) ∙ sym (append_assoc t (44 ∷ u) (13 ∷ 10 ∷ []))

  as_many : {k : ℕ} {t : List ℕ} {cs ls : List (List ℕ)} → WrittenRecord k t cs ls → length ls ≡ k
  as_many (last_field l) = refl
  as_many (field_before l r) = ap suc (as_many r)

  sheet_again : {columns rows : ℕ} {t : List ℕ} {cs ls : List (List ℕ)} → WrittenSheet columns rows t cs ls → (bay : ℕ) → Has bay ls → sheet_text c columns bay rows ≡ t
  unfolding sheet_text
  sheet_again no_record bay h = refl
  sheet_again {columns = columns} (ended_record {k = k} {ls = ls} {ms = ms} r s) bay h =
      ap₂ (λ (v w : List ℕ). v ++ w) (record-again r bay (front_has bay ls ms h))
      (ap (λ (n : ℕ). sheet_text c columns (bay + n) k) (sym (as_many r)) ∙ sheet_again s (bay + length ls) (back_has bay ls ms h))

-- the sheet of the lists of a text in the writer's form is that text
pub same_text : {columns rows : ℕ} {t : List ℕ} {cs ls : List (List ℕ)} → WrittenSheet columns rows t cs ls → sheet_bytes rows columns (starts 0 ls) (all_tiles ls) ≡ t
same_text {ls = ls} s = sheet_again c s 0 (record { each = λ i h. ap (list_of c) (zero-add i) ∙ list_of_starts ls i h })
  where
    c : Constraints
    c = lists (starts 0 ls) (all_tiles ls)

-- ---- the same of the two calls

module _ (rows columns : ℕ) (text offsets tiles : List ℕ) (read : read_verdict rows columns text offsets tiles ≡ passes) where
  abbrev later : Verdict
  later =
      sheet_verdict rows columns text
      ▷ refuse_if (not (eqb (length offsets) (rows * columns + 1))) Shape
      ▷ refuse_if (ltb (length tiles) (tile_count rows columns text)) (NoRoom (tile_count rows columns text))

  abbrev ours : List (List ℕ)
  ours = sheet_lists rows columns text

  module _ (same : sheet_bytes rows columns (starts 0 ours) (all_tiles ours) ≡ text) (short : length text < 2 ^ 63) (lent : List ℕ) (room : length text ≤ length lent) where
    need_is : bytes_needed rows columns (starts 0 ours) (all_tiles ours) ≡ length text
    need_is = ap (λ (l : List ℕ). min (length l) (2 ^ 64 - 1)) same ∙ omega arith

    writing_passes : write_verdict rows columns (starts 0 ours) (all_tiles ours) lent ≡ passes
    writing_passes =
        let grid : grid_verdict rows columns ≡ passes = first_passes (grid_verdict rows columns) later read in
        let need = bytes_needed rows columns (starts 0 ours) (all_tiles ours) in
        let has_room : need ≤ length lent = omega (arith, need_is) in
        rw (grid, sheet_is_shaped rows columns text, le-ltb (length lent) need has_room)

    abbrev writing : (o t : List ℕ) → Type 0
    writing o t = (write_answer rows columns o t lent ≡ Ok (length text)) × (text_after rows columns o t lent ≡ front text lent)

    written_again : writing (starts 0 ours) (all_tiles ours)
    written_again = (
      ap₂ answer writing_passes need_is,
      ap₂ (λ (v : Verdict) (l : List ℕ). if_passes v (front l lent) lent) writing_passes same,
    )

    comes_back : ComesBack rows columns text offsets tiles (tile_count rows columns text) lent
    comes_back =
        let w = subst₂ writing (sym (read_offsets rows columns text offsets tiles read)) (sym (read_tiles rows columns text offsets tiles read)) written_again in
        record { answers = w.0; leaves = w.1 }

-- a text in the writer's form that is read comes back from the call that writes, where the text lent to it has room; a slice is shorter than 2^63
pub text_comes_back : {columns rows : ℕ} {text : List ℕ} {cs ls : List (List ℕ)} → WrittenSheet columns rows text cs ls → (offsets tiles : List ℕ) (count : ℕ)
    → read_answer rows columns text offsets tiles ≡ Ok count → (lent : List ℕ) → length text < 2 ^ 63 → length text ≤ length lent → ComesBack rows columns text offsets tiles count lent
text_comes_back {columns = columns} {rows = rows} {text = text} {ls = ls} s offsets tiles count e lent short room =
    let r = counted (read_verdict rows columns text offsets tiles) (tile_count rows columns text) count e in
    let read_as : ls ≡ sheet_lists rows columns text = sym (complete (written_is_sheet s)).lists in
    let same = subst (λ (l : List (List ℕ)). sheet_bytes rows columns (starts 0 l) (all_tiles l) ≡ text) read_as (same_text s) in
    subst (λ (n : ℕ). ComesBack rows columns text offsets tiles n lent) r.1 (comes_back rows columns text offsets tiles r.0 same short lent room)
