-- What the call that reads accepts, in the grammar's words: exactly the sheets of the grid, where what is lent has room; and what it then leaves.
-- Assumes nothing.
use Prim.Native.Nat.{ℕ, ◌+◌, ◌*◌, ◌≤◌}
use mathlib.Core.Path.{◌≡◌, refl, ap, ◌∙◌}
use mathlib.Core.Bool.{true, not, ◌&&◌}
use mathlib.Core.List.{List}
use native.Mathlib.Omega.{arith}
use lib.Dec.{eqb, leb, ltb}
use lib.ListN.{length, take, drop}
use lib.Seq.{take-append_seam}
use borrow.Author.Tests.{eq-eqb, le-ltb, leb-true, not-false}
use Rattle.units.proofs.Tests.{both}
use Rattle.units.specs.Limits.{most_side, from_one_to}
use Rattle.units.specs.Refusals.{Verdict, passes, refuse_if, ◌▷◌, answer, if_passes}
use Rattle.units.specs.declared.refusal.Refusal.TheVariants.{Size, Shape, NoRoom}
use Rattle.std.specs.Prelude.{Ok, Err}
use Rattle.units.proofs.Verdicts.{first_passes, rest_passes, no_fault}
use Rattle.sheet_fields.specs.Runs.{contents}
use Rattle.sheet_cells.specs.Cells.{all_tiles, starts, front, sheet_verdict}
use Rattle.sheet.specs.Read.{grid_verdict, sheet_lists, tile_count, read_verdict, offsets_after, tiles_after}
use Rattle.sheet_grammar.specs.Grammar.{SheetText}
use Rattle.sheet_grammar.proofs.Accepted.{passed_is_sheet, complete}

-- a text that the call reads is a sheet of the grid, and its lists are those that the grammar gives it
pub read_is_sheet : (rows columns : ℕ) (text offsets tiles : List ℕ) → read_verdict rows columns text offsets tiles ≡ passes
    → SheetText columns rows text (contents (rows * columns) text) (sheet_lists rows columns text)
read_is_sheet rows columns text offsets tiles e =
    let room = refuse_if (ltb (length tiles) (tile_count rows columns text)) (NoRoom (tile_count rows columns text)) in
    let lent = refuse_if (not (eqb (length offsets) (rows * columns + 1))) Shape ▷ room in
    let later = sheet_verdict rows columns text ▷ lent in
    let sides = not-false (from_one_to most_side rows && from_one_to most_side columns) (no_fault (not (from_one_to most_side rows && from_one_to most_side columns)) Size (first_passes (grid_verdict rows columns) later e)) in
    let some = leb-true 1 columns (both (leb 1 columns) (leb columns most_side) (both (from_one_to most_side rows) (from_one_to most_side columns) sides).1).0 in
    passed_is_sheet rows columns text some (first_passes (sheet_verdict rows columns text) lent (rest_passes (grid_verdict rows columns) later e))

-- and each sheet of the grid is read where what is lent has room
pub sheet_is_read : {rows columns : ℕ} {text : List ℕ} {cs ls : List (List ℕ)} → (from_one_to most_side rows && from_one_to most_side columns) ≡ true → SheetText columns rows text cs ls
    → (offsets tiles : List ℕ) → length offsets ≡ rows * columns + 1 → length (all_tiles ls) ≤ length tiles → read_verdict rows columns text offsets tiles ≡ passes
sheet_is_read {rows = rows} {columns = columns} {text = text} sides s offsets tiles shape room =
    let count = ap (λ (l : List (List ℕ)). length (all_tiles l)) (complete s).lists in
    let enough = le-ltb (length tiles) (tile_count rows columns text) (omega arith) in
    rw (sides, (complete s).no_fault 1, eq-eqb (length offsets) (rows * columns + 1) shape, enough)

-- an answer that is a count comes from tests that pass
pub counted : (v : Verdict) (n count : ℕ) → answer v n ≡ Ok count → (v ≡ passes) × (n ≡ count)
counted (Ok passed) n count e = (refl, cc)
counted (Err r) n count e = absurd cc

-- where the call passes, it leaves where the sheet's lists begin, and their numbers in front of what the tiles held
module _ (rows columns : ℕ) (text o t : List ℕ) (read : read_verdict rows columns text o t ≡ passes) where
  pub read_offsets : offsets_after rows columns text o t ≡ starts 0 (sheet_lists rows columns text)
  read_offsets = ap (λ (v : Verdict). if_passes v (starts 0 (sheet_lists rows columns text)) o) read

  pub read_tiles : take (tile_count rows columns text) (tiles_after rows columns text o t) ≡ all_tiles (sheet_lists rows columns text)
  read_tiles =
      let numbers = all_tiles (sheet_lists rows columns text) in
      ap (λ (v : Verdict). take (tile_count rows columns text) (if_passes v (front numbers t) t)) read ∙ take-append_seam numbers (drop (length numbers) t)
