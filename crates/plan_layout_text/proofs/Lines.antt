-- Laws of a grid's parts: how spaces, a cell, a row and the rows go on, and a place that stops at the layout's end. Assumes nothing.
use Prim.Native.Nat.{ℕ, zero, suc, ◌+◌, ◌-◌, ◌≤◌, ◌<◌, min}
use mathlib.Core.Bool.{Bool, true, false}
use mathlib.Core.List.{List, [], ◌∷◌, ◌++◌, append-nil}
use mathlib.Core.Path.{◌≡◌, refl, sym, ap, ◌∙◌}
use native.Mathlib.Numerals.{sub-one}
use native.Mathlib.Nat.{add-zero}
use native.Mathlib.Omega.{arith}
use borrow.Author.Tests.{leb-true, leb-false}
use lib.Dec.{leb}
use lib.ListN.{length, get_or, drop, drop_of_length-le}
use lib.Seq.{drop-drop, get_or-drop}
use Rattle.name_strands.specs.Names.{StrandNames}
use Rattle.text_put.specs.Puts.{Put}
use Rattle.text_put.proofs.Putting.{Ending, ending_goes_on}
use Rattle.plan_bay_names.specs.Bays.{bay_text, character_count}
use Rattle.plan_layout_text.specs.Grid.{spaces, gap, cell_text, row_text, rows_text}

-- ---- spaces

pub spaces_next : (from to : ℕ) → from < to → spaces (to - from) ≡ (32 ∷ []) ++ spaces (to - (from + 1))
unfolding spaces
spaces_next from to h = let e : to - from ≡ suc (to - (from + 1)) = omega arith in rw e

pub spaces_end : (from to : ℕ) → to ≤ from → spaces (to - from) ≡ []
unfolding spaces
spaces_end from to h = let e : to - from ≡ 0 = omega arith in rw e

-- ---- a cell

module _ (width left : ℕ) (shown : List ℕ) where
  pub last_cell : left ≡ 0 → shown ≡ cell_text width left shown
  unfolding gap
  last_cell e = rw e (sym (append-nil shown))

  pub wide_cell : (left ≡ 0 → ⊥) → {used : ℕ} → used ≡ character_count shown → shown ++ (spaces (width - used) ++ (32 ∷ 32 ∷ [])) ≡ cell_text width left shown
  unfolding gap
  wide_cell h e = rw e (go left h)
    where
      go : (k : ℕ) → (k ≡ 0 → ⊥) → shown ++ (spaces (width - character_count shown) ++ (32 ∷ 32 ∷ [])) ≡ cell_text width k shown
      go zero none = absurd (none refl)
      go (suc k) none = refl

-- ---- a row, and the rows

module _ (n : StrandNames) (width : ℕ) where
  pub row_next : (tiles : List ℕ) (left : ℕ) → 0 < left
      → row_text n width tiles left ≡ cell_text width (left - 1) (bay_text n (get_or tiles 0 0)) ++ row_text n width (drop 1 tiles) (left - 1)
  unfolding row_text
  row_next tiles zero h = absurd (omega arith)
  row_next tiles (suc left) h = rw (sub-one (suc left))

  pub row_end : (tiles : List ℕ) (left : ℕ) → left ≤ 0 → row_text n width tiles left ≡ 10 ∷ []
  unfolding row_text
  row_end tiles zero h = refl
  row_end tiles (suc left) h = absurd (omega arith)

  pub rows_next : (columns : ℕ) (tiles : List ℕ) (left : ℕ) → 0 < left
      → rows_text n width columns tiles left ≡ row_text n width tiles columns ++ rows_text n width columns (drop columns tiles) (left - 1)
  unfolding rows_text
  rows_next columns tiles zero h = absurd (omega arith)
  rows_next columns tiles (suc left) h = rw (sub-one (suc left))

  pub rows_end : (columns : ℕ) (tiles : List ℕ) (left : ℕ) → left ≤ 0 → rows_text n width columns tiles left ≡ []
  unfolding rows_text
  rows_end columns tiles zero h = refl
  rows_end columns tiles (suc left) h = absurd (omega arith)

-- ---- places

-- past the end nothing is left, so that a place may stop there
pub stops : (layout : List ℕ) (bay by : ℕ) {next : ℕ} → next ≡ min (bay + by) (length layout) → drop by (drop bay layout) ≡ drop next layout
stops layout bay by {next} e = drop-drop by bay layout ∙ go (leb (bay + by) (length layout)) refl
  where
    go : (t : Bool) → leb (bay + by) (length layout) ≡ t → drop (bay + by) layout ≡ drop next layout
    go true h = let k = leb-true (bay + by) (length layout) h in let same : bay + by ≡ next = omega arith in rw same
    go false h =
        let k = leb-false (bay + by) (length layout) h in
        let last : length layout ≤ next = omega arith in
        let past : length layout ≤ bay + by = omega arith in
        drop_of_length-le layout past ∙ sym (drop_of_length-le layout last)

pub tile_there : (layout : List ℕ) (bay : ℕ) → get_or layout bay 0 ≡ get_or (drop bay layout) 0 0
tile_there layout bay = sym (get_or-drop bay layout 0 0 ∙ ap (λ (k : ℕ). get_or layout k 0) (add-zero bay))

-- ---- turns

module _ (n : StrandNames) (width : ℕ) (layout : List ℕ) {old : List ℕ} {at : ℕ} {whole out : List ℕ} {next : ℕ} (bay left : ℕ) where
  pub row_goes_on : Ending old at whole (row_text n width (drop bay layout) left) out next → 0 < left → {tile : ℕ} → tile ≡ get_or layout bay 0
      → {r : ℕ} {out' : List ℕ} → Put out next (cell_text width (left - 1) (bay_text n tile)) r out' → {bay' : ℕ} → bay' ≡ min (bay + 1) (length layout)
      → Ending old at whole (row_text n width (drop bay' layout) (left - 1)) out' r
  row_goes_on s h {tile} t p {bay'} e =
      let more = row_text n width (drop bay' layout) (left - 1) in
      let turn : row_text n width (drop bay layout) left ≡ cell_text width (left - 1) (bay_text n tile) ++ more =
      row_next n width (drop bay layout) left h ∙ rw (← stops layout bay 1 e, t, tile_there layout bay) in
      ending_goes_on s (cell_text width (left - 1) (bay_text n tile)) more turn p

  pub rows_go_on : (columns : ℕ) → Ending old at whole (rows_text n width columns (drop bay layout) left) out next → 0 < left
      → {r : ℕ} {out' : List ℕ} → Put out next (row_text n width (drop bay layout) columns) r out' → {bay' : ℕ} → bay' ≡ min (bay + columns) (length layout)
      → Ending old at whole (rows_text n width columns (drop bay' layout) (left - 1)) out' r
  rows_go_on columns s h p {bay'} e =
      let more = rows_text n width columns (drop bay' layout) (left - 1) in
      let turn : rows_text n width columns (drop bay layout) left ≡ row_text n width (drop bay layout) columns ++ more =
      rows_next n width columns (drop bay layout) left h ∙ rw (← stops layout bay columns e) in
      ending_goes_on s (row_text n width (drop bay layout) columns) more turn p
