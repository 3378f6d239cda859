-- `run_scan_tables::lay_out` meets its contract. The invariant: the bays before are laid out. Assumes nothing.
use Prim.Native.Nat.{ℕ}
use mathlib.Core.Path.{◌≡◌}
use lib.ListN.{get_or, take}
use Rattle.bay_scan_order.specs.Scan.{number_at}
use Rattle.ledger_rows.specs.Blocks.{tab}
use Rattle.run_scan_tables.proofs.lay_out.Given as goal

abbrev pub invariant-loop-bay : goal.invariant-loop-bay
invariant-loop-bay l = take l.bay l.layout ≡ tab (λ (b : ℕ). get_or l.order (number_at l.rows l.cols b) 0) l.bay
