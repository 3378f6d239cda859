-- The order in which bays are scanned: major lines are rows if columns ≤ rows, else columns. Assumes nothing.
use Rattle.std.specs.Prelude.{ℕ, ◌+◌, ◌*◌, ◌/◌, ◌%◌, Bool, cond, leb}

-- major lines are rows: the previous one is to the north, and the previous bay of the line to the west
abbrev pub by_rows : (rows cols : ℕ) → Bool
by_rows rows cols = leb cols rows

-- the shorter side, the smaller of rows and columns: how long a major line is
abbrev pub window : (rows cols : ℕ) → ℕ
window rows cols = cond (by_rows rows cols) cols rows

-- the bay, by its row-by-row number, that is scanned as number k
abbrev pub bay_at : (rows cols k : ℕ) → ℕ
bay_at rows cols k = cond (by_rows rows cols) k (k % rows * cols + k / rows)

-- the number in the scan of a bay
abbrev pub number_at : (rows cols bay : ℕ) → ℕ
number_at rows cols bay = cond (by_rows rows cols) bay (bay % cols * rows + bay / cols)
