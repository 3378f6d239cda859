-- Laws of a walk over the bays of a row and over the rows of a drawing. Assumes nothing.
use Prim.Native.Nat.{ℕ, suc, ◌+◌, ◌-◌, ◌*◌, ◌≤◌, ◌<◌, min}
use mathlib.Core.List.{List, [], ◌++◌}
use mathlib.Core.Path.{◌≡◌, refl, ◌∙◌, ap}
use native.Mathlib.Nat.{add-zero, add_assoc}
use native.Mathlib.Omega.{arith}
use lib.ListN.{length, get_or, drop}
use lib.Seq.{drop-drop, get_or-drop}
use Rattle.units.specs.Limits.{most_side}
use Rattle.name_strands.specs.Names.{StrandNames}
use Rattle.text_put.specs.Puts.{Put}
use Rattle.text_put.proofs.Putting.{Ending, starts_anywhere, ending_goes_on, ending_ends}
use Rattle.plan_bay_drawing.specs.Squares.{bay_drawing}
use Rattle.plan_layout_svg.specs.Drawing.{row_drawing, rows_drawing}

there : (l : List ℕ) (i : ℕ) → get_or (drop i l) 0 0 ≡ get_or l i 0
there l i = get_or-drop i l 0 0 ∙ ap (λ (k : ℕ). get_or l k 0) (add-zero i)

onward : (l : List ℕ) (i by : ℕ) → drop by (drop i l) ≡ drop (i + by) l
onward l i by = drop-drop by i l

module _ (n : StrandNames) (layout marks : List ℕ) where
  -- ---- the bays of a row

  -- the bays from a column on
  abbrev pub bays : (row first column left : ℕ) → List ℕ
  bays row first column left = row_drawing n row column (drop (first + column) layout) (drop (first + column) marks) left

  module _ (row first : ℕ) where
    bays_next : (column left : ℕ) → bays row first column (suc left)
        ≡ bay_drawing n (24 + 80 * column) (64 + 80 * row) (get_or layout (first + column) 0) (get_or marks (first + column) 0) ++ bays row first (column + 1) left
    unfolding row_drawing
    bays_next column left =
        rw (there layout (first + column), there marks (first + column), onward layout (first + column) 1, onward marks (first + column) 1, add_assoc first column 1)

    bays_end : (column : ℕ) → bays row first column 0 ≡ []
    unfolding row_drawing
    bays_end column = refl

    -- what is left of the row will end it
    pub record Row (columns : ℕ) (old : List ℕ) (at : ℕ) (out : List ℕ) (next column : ℕ) : Type 0 where
      pub ending : Ending old at (row_drawing n row 0 (drop first layout) (drop first marks) columns) (bays row first column (columns - column)) out next
      pub within : column ≤ columns

    module _ (columns : ℕ) (old : List ℕ) (at : ℕ) where
      pub row_starts : {next : ℕ} → next ≡ min at (length old) → Row columns old at old next 0
      row_starts h =
          let here : first + 0 ≡ first = omega arith in
          let all : columns - 0 ≡ columns = omega arith in
          record { ending = rw (here, all) (starts_anywhere (row_drawing n row 0 (drop first layout) (drop first marks) columns) h); within = omega arith }

      module _ (out : List ℕ) (next column : ℕ) (s : Row columns old at out next column) where
        pub row_goes_on : column < columns → {across down tile mark : ℕ} → across ≡ 24 + 80 * column → down ≡ 64 + 80 * row
            → tile ≡ get_or layout (first + column) 0 → mark ≡ get_or marks (first + column) 0
            → {r : ℕ} {out' : List ℕ} → Put out next (bay_drawing n across down tile mark) r out' → Row columns old at out' r (column + 1)
        row_goes_on h {across} {down} {tile} {mark} x y t m p =
            let more : columns - column ≡ suc (columns - (column + 1)) = omega arith in
            let turn : bays row first column (columns - column) ≡ bay_drawing n across down tile mark ++ bays row first (column + 1) (columns - (column + 1)) =
            rw (more, x, y, t, m) (bays_next column (columns - (column + 1))) in
            record { ending = ending_goes_on s.ending (bay_drawing n across down tile mark) (bays row first (column + 1) (columns - (column + 1))) turn p; within = omega arith }

        pub row_ends : columns ≤ column → Put old at (row_drawing n row 0 (drop first layout) (drop first marks) columns) next out
        row_ends h = let none : columns - column ≡ 0 = omega arith in ending_ends s.ending (rw none (bays_end column))

  -- ---- the rows

  module _ (columns : ℕ) where
    -- the rows from one on, whose first bay is this
    abbrev pub rest : (row bay left : ℕ) → List ℕ
    rest row bay left = rows_drawing n columns row (drop bay layout) (drop bay marks) left

    rest_next : (row bay left : ℕ) → rest row bay (suc left) ≡ row_drawing n row 0 (drop bay layout) (drop bay marks) columns ++ rest (row + 1) (bay + columns) left
    unfolding rows_drawing
    rest_next row bay left = rw (onward layout bay columns, onward marks bay columns)

    rest_end : (row bay : ℕ) → rest row bay 0 ≡ []
    unfolding rows_drawing
    rest_end row bay = refl

    -- what is left of the rows will end them, and each row before them has as many bays as a side may have, at the most
    pub record Grid (rows : ℕ) (old : List ℕ) (at : ℕ) (out : List ℕ) (next bay row : ℕ) : Type 0 where
      pub ending : Ending old at (rows_drawing n columns 0 layout marks rows) (rest row bay (rows - row)) out next
      pub within : row ≤ rows
      pub few : bay ≤ most_side * row

    module _ (rows : ℕ) (old : List ℕ) (at : ℕ) where
      pub grid_starts : {next : ℕ} → next ≡ min at (length old) → Grid rows old at old next 0 0
      grid_starts h =
          let all : rows - 0 ≡ rows = omega arith in
          record { ending = rw all (starts_anywhere (rows_drawing n columns 0 layout marks rows) h); within = omega arith; few = omega arith }

      module _ (out : List ℕ) (next bay row : ℕ) (s : Grid rows old at out next bay row) where
        pub grid_goes_on : row < rows → columns ≤ most_side → {r : ℕ} {out' : List ℕ} → Put out next (row_drawing n row 0 (drop bay layout) (drop bay marks) columns) r out'
            → Grid rows old at out' r (bay + columns) (row + 1)
        grid_goes_on h small p =
            let more : rows - row ≡ suc (rows - (row + 1)) = omega arith in
            let turn : rest row bay (rows - row) ≡ row_drawing n row 0 (drop bay layout) (drop bay marks) columns ++ rest (row + 1) (bay + columns) (rows - (row + 1)) =
            rw more (rest_next row bay (rows - (row + 1))) in
            let f = s.few in
            record {
              ending = ending_goes_on s.ending (row_drawing n row 0 (drop bay layout) (drop bay marks) columns) (rest (row + 1) (bay + columns) (rows - (row + 1))) turn p;
              within = omega arith;
              few = omega arith;
            }

        pub grid_ends : rows ≤ row → Put old at (rows_drawing n columns 0 layout marks rows) next out
        grid_ends h = let none : rows - row ≡ 0 = omega arith in ending_ends s.ending (rw none (rest_end row bay))
