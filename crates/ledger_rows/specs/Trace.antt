-- What is read out of a filled ledger: the first least row of the last block, and the filling that the notes lead back to. Assumes nothing.
use Rattle.std.specs.Prelude.{cond, List, [], ◌∷◌, ℕ, zero, suc, ◌+◌, ◌/◌, ◌%◌, ltb, Float, length, get_or}
use Rattle.floats.specs.declared.Choice.{Choice}
use Rattle.ledger_rows.specs.Scan.{Scan}
use Rattle.ledger_rows.specs.Blocks.{size, leavers, held_at, lowest, came_from, energies, notes}

-- how many strands of a list are below t: the position of t where the list rises and holds t
unfoldable pub below : List ℕ → ℕ → ℕ
below [] t = 0
below (s ∷ l) t = cond (ltb s t) 1 0 + below l t

-- the row of block k from which row i of block k + 1 came, by its note
abbrev pub row_before : Scan → (k i : ℕ) → ℕ
row_before z k i = came_from z k (i / length (z.strands k)) (below (leavers z z.kept k) (get_or (notes z (suc k)) i 0))

-- the filling of the first k bays, newest first, that the notes lead back to from row i of block k
unfoldable pub trace : Scan → (k i : ℕ) → List ℕ
trace z zero i = []
trace z (suc k) i = get_or (z.strands k) (i % length (z.strands k)) 0 ∷ trace z k (row_before z k i)

-- the lowest row of block n, with its energy: of equal ones the first
unfoldable pub answer_row : Scan → ℕ → Choice
answer_row z n = lowest (λ i. record { energy = held_at (energies z n) i; who = i }) (size z n (suc z.kept))

-- the scan sum that the run answers after n bays
abbrev pub answer : Scan → ℕ → Float
answer z n = (answer_row z n).energy

-- the layout that the run answers, newest bay first
abbrev pub layout : Scan → ℕ → List ℕ
layout z n = trace z n (answer_row z n).who
