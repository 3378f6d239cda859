-- The way back through a table of notes, over the sets alone. Assumes nothing.
use Rattle.std.specs.Prelude.{List, [], ◌∷◌, ◌++◌, ℕ, zero, suc, ◌+◌, ◌/◌, ◌%◌, ◌≤◌, ◌<◌, length, get_or}
use Rattle.units.specs.Limits.{most_rows}
use Rattle.ledger_rows.specs.Scan.{Scan, EachHasStrand}
use Rattle.ledger_rows.specs.Blocks.{size, leavers, came_from, need}
use Rattle.ledger_rows.specs.Trace.{below}
use Rattle.ledger_fill.specs.Handed.{set_scan}

-- the strands of a filling in scan order, oldest bay first
unfoldable pub in_order : List ℕ → List ℕ
in_order [] = []
in_order (t ∷ f) = in_order f ++ (t ∷ [])

-- the filling of the first k bays, newest first, that the notes of a table lead back to from row i of block k
unfoldable pub trace_in : Scan → List ℕ → (k i : ℕ) → List ℕ
trace_in z table zero i = []
trace_in z table (suc k) i =
    get_or (z.strands k) (i % length (z.strands k)) 0
    ∷ trace_in z table k (came_from z k (i / length (z.strands k)) (below (leavers z z.kept k) (get_or table (need z k + i) 0)))

-- each note of the first n blocks is a strand that leaves: fewer are below it than there are
abbrev pub Noted : Scan → List ℕ → (n : ℕ) → Type 0
Noted z table n =
    (k i : ℕ) → k < n → i < size z (suc k) (suc z.kept) → below (leavers z z.kept k) (get_or table (need z k + i) 0) < length (leavers z z.kept k)

-- what a way back is handed: a window, a strand for each bay, few rows, and a table that notes them all
pub record Traceable (window : ℕ) (sets : List ℕ) (notes : List ℕ) : Type 0 where
  pub some_window : 0 < window
  pub filled : EachHasStrand (set_scan window sets) (length sets)
  pub few_rows : need (set_scan window sets) (length sets) ≤ most_rows
  pub noted_all : need (set_scan window sets) (length sets) ≤ length notes
  pub noted : Noted (set_scan window sets) notes (length sets)
