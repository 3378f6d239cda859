-- `run_scan_tables::fill_scan` meets its contract. The invariant: the first k sets of the scan are written. Assumes nothing.
use Prim.Native.Nat.{ℕ}
use mathlib.Core.Path.{◌≡◌}
use lib.ListN.{get_or, take}
use Rattle.bay_scan_order.specs.Scan.{bay_at}
use Rattle.ledger_rows.specs.Blocks.{tab}
use Rattle.run_scan_tables.proofs.fill_scan.Given as goal

abbrev pub invariant-loop-k : goal.invariant-loop-k
invariant-loop-k l = take l.k l.set-items ≡ tab (λ (j : ℕ). get_or l.sets (bay_at l.rows l.cols j) 0) l.k
