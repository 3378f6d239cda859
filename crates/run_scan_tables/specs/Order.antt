-- The order of the scan over tables that stand row by row. Assumes nothing.
use Rattle.std.specs.Prelude.{ℕ, ◌*◌, List, get_or}
use Rattle.bay_scan_order.specs.Scan.{bay_at}
use Rattle.ledger_rows.specs.Blocks.{tab}

-- sets that stand row by row, in scan order
abbrev pub scan_sets : (rows cols : ℕ) → (sets : List ℕ) → List ℕ
scan_sets rows cols sets = tab (λ k. get_or sets (bay_at rows cols k) 0) (rows * cols)
