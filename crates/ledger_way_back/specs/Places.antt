-- A place on the way back through the ledger. Assumes nothing.
use Rattle.std.specs.Prelude.{◌≡◌, List, ℕ, suc, ◌+◌, ◌/◌, ◌<◌, length, get_or}
use Rattle.ledger_rows.specs.Scan.{Scan}
use Rattle.ledger_rows.specs.Blocks.{size, leavers, came_from, need}
use Rattle.ledger_rows.specs.Trace.{below}
use Rattle.ledger_way_back.specs.declared.Place.{Place}

-- row i of block k
abbrev pub place_of : Scan → (k i : ℕ) → Place
place_of z k i = record { row = i; rows = size z k (suc z.kept); end = need z k }

-- a place is one of block k, at a row that the block has
abbrev pub OnBlock : Scan → (k : ℕ) → Place → Type 0
OnBlock z k at = (at ≡ place_of z k at.row) × (at.row < size z k (suc z.kept))

-- the row of block k from which row i of block k + 1 came, by the note in a table
abbrev pub row_back : Scan → List ℕ → (k i : ℕ) → ℕ
row_back z table k i = came_from z k (i / length (z.strands k)) (below (leavers z z.kept k) (get_or table (need z k + i) 0))
