-- The chemist's answer, from the bytes of the sheet to the strand in the layout, of the two calls themselves. Assumes nothing.
use Prim.Native.Nat.{ℕ, ◌*◌}
use mathlib.Core.Path.{◌≡◌, refl, sym, ◌∙◌, ap, ap₂, subst, subst₂}
use mathlib.Core.List.{List}
use lib.Ieee.{Float}
use lib.ListN.{length, get_or, take}
use native.Mathlib.Nat.{zero-add}
use Rattle.std.proofs.Common.{Ok, Err}
use Rattle.units.specs.Refusals.{Verdict, passes, answer, ◌▷◌, if_passes}
use Rattle.units.proofs.Verdicts.{first_passes, rest_passes}
use Rattle.bay_lists.specs.Lists.{Constraints, lists}
use Rattle.bay_given.specs.Given.{given_verdict}
use Rattle.bay_given.proofs.Passed.{is_fine}
use Rattle.bay_legal.specs.Sets.{sets_of, empty_verdict}
use Rattle.energy_state.specs.StateG.{in_kcal}
use Rattle.run_room.specs.Room.{room_verdict}
use Rattle.run_least_layout.specs.Run.{run_need, least_sum, least_layout}
use Rattle.bay_legal_at.specs.Layouts.{LegalLayout}
use Rattle.run_least_layout.proofs.Passed.{run_is_right}
use Rattle.run_mfe.specs.Run.{early_verdict, sum_verdict, run_verdict}
use Rattle.sheet_cells.specs.Cells.{all_tiles, starts}
use Rattle.sheet.specs.Read.{sheet_lists, tile_count, read_verdict, tiles_after}
use Rattle.sheet_grammar.specs.Contents.{sheet_constraints}
use Rattle.sheet_grammar.proofs.Calls.{counted, read_offsets, read_tiles}
use Rattle.sheet_grammar.proofs.FromSheetToSet.{length_cells}
use Rattle.sheet_grammar.proofs.Offsets.{last_start}
use Rattle.plan_chemists_answer.specs.ChemistsAnswer.{ChemistsAnswer}
use Rattle.plan_chemists_answer.proofs.Fields.{by_the_fields}
use Rattle.plan_chemists_answer.proofs.TwoCalls.{SheetRead, rows_of, columns_of, text_of, offsets_read, tiles_read, RunAnswered, system_of, given_lists, layout_of, HandedOn}

-- an answer that is an energy comes from tests that pass
answered : (v : Verdict) (x e : Float) → answer v x ≡ Ok e → v ≡ passes
answered (Ok passed) x e q = refl
answered (Err r) x e q = absurd (cc)

module _ (r : SheetRead) where
  abbrev offsets_lent : List ℕ
  offsets_lent = r.input.1.1.1.0.now

  abbrev tiles_lent : List ℕ
  tiles_lent = r.input.1.1.1.1.0.now

  read_passes : (read_verdict (rows_of r) (columns_of r) (text_of r) offsets_lent tiles_lent ≡ passes) × (tile_count (rows_of r) (columns_of r) (text_of r) ≡ r.count)
  read_passes = counted (read_verdict (rows_of r) (columns_of r) (text_of r) offsets_lent tiles_lent) (tile_count (rows_of r) (columns_of r) (text_of r)) r.count (sym r.contract.0)

  offsets_are_starts : offsets_read r ≡ starts 0 (sheet_lists (rows_of r) (columns_of r) (text_of r))
  offsets_are_starts = r.contract.1.0 ∙ read_offsets (rows_of r) (columns_of r) (text_of r) offsets_lent tiles_lent read_passes.0

  -- what it left are the constraints that the sheet's lists are
  lists_of_sheet : lists (offsets_read r) (tiles_read r) ≡ sheet_constraints (rows_of r) (columns_of r) (text_of r)
  lists_of_sheet =
      ap₂ (λ (offsets tiles : List ℕ). lists offsets tiles) offsets_are_starts
      (ap (take r.count) r.contract.1.1
      ∙ ap (λ (n : ℕ). take n (tiles_after (rows_of r) (columns_of r) (text_of r) offsets_lent tiles_lent)) (sym read_passes.1)
      ∙ read_tiles (rows_of r) (columns_of r) (text_of r) offsets_lent tiles_lent read_passes.0)

  -- so many tiles were handed on as the last offset says
  pub last_offset : get_or (offsets_read r) (rows_of r * columns_of r) 0 ≡ r.count
  last_offset =
      let lists = sheet_lists (rows_of r) (columns_of r) (text_of r) in
      let many = length_cells (rows_of r * columns_of r) (text_of r) in
      ap₂ (λ (offsets : List ℕ) (n : ℕ). get_or offsets n 0) offsets_are_starts (sym many) ∙ last_start 0 lists ∙ zero-add (length (all_tiles lists)) ∙ read_passes.1

module _ (m : RunAnswered) where
  abbrev lent : ℕ × (ℕ × ℕ)
  lent =
      let a = m.input.1.1 in
      (length a.0.now, (length a.1.0.now, length a.1.1.0.now))

  run_passes : run_verdict (system_of m) (given_lists m) lent.0 lent.1.0 lent.1.1 ≡ passes
  run_passes =
      answered (run_verdict (system_of m) (given_lists m) lent.0 lent.1.0 lent.1.1) (in_kcal (least_sum (system_of m) (given_lists m)) (system_of m).sizes.kelvin) m.energy
      (sym m.contract.0)

  -- the layout that it left is legal
  legal : LegalLayout (system_of m) (given_lists m) (layout_of m)
  legal =
      let s = system_of m in
      let c = given_lists m in
      let early = first_passes (early_verdict s c lent.0 lent.1.0 lent.1.1) (sum_verdict s c) run_passes in
      let empty = empty_verdict s.sizes.rows s.sizes.cols (sets_of s c) in
      let room = room_verdict (run_need s c) lent.1.0 lent.1.1 in
      let given = given_verdict s lent.0 c in
      let sound = is_fine s lent.0 c (first_passes given (empty ▷ room) early) in
      let some = first_passes empty room (rest_passes given (empty ▷ room) early) in
      let old = m.input.1.1.0.now in
      let left : layout_of m ≡ least_layout s c = m.contract.1.0 ∙ ap (λ (v : Verdict). if_passes v (least_layout s c) old) run_passes in
      subst (LegalLayout s c) (sym left) (run_is_right s c sound some).legal

-- Where `read_sheet` read the sheet and the run on the lists so read ended in a layout, that layout is what the chemist's fields say.
pub chemists_answer : (r : SheetRead) (m : RunAnswered) → HandedOn r m → ChemistsAnswer (system_of m) (text_of r) (given_lists m) (layout_of m)
chemists_answer r m h =
    let s = system_of m in
    let sheet = text_of r in
    let given : given_lists m ≡ sheet_constraints s.sizes.rows s.sizes.cols sheet
    = h.lists_read ∙ lists_of_sheet r ∙ ap₂ (λ (rows columns : ℕ). sheet_constraints rows columns sheet) (sym h.same_rows) (sym h.same_columns) in
    let read = subst₂ (λ (rows columns : ℕ). read_verdict rows columns sheet (offsets_lent r) (tiles_lent r) ≡ passes) (sym h.same_rows) (sym h.same_columns) (read_passes r).0 in
    subst (λ (c : Constraints). ChemistsAnswer s sheet c (layout_of m)) (sym given)
    (by_the_fields s sheet (offsets_lent r) (tiles_lent r) read (layout_of m) (subst (λ (c : Constraints). LegalLayout s c (layout_of m)) given (legal m)))
