-- `run_tables::sites::fill_sites` meets its contract. The invariant: the first i energies are written. Assumes nothing.
use Prim.Native.Nat.{ℕ, ◌/◌, ◌%◌}
use mathlib.Core.Path.{◌≡◌}
use lib.ListN.{take}
use Rattle.units.specs.Limits.{most_strands}
use Rattle.bay_system.specs.System.{system_of}
use Rattle.bay_scan_order.specs.Scan.{bay_at}
use Rattle.ledger_rows.specs.Blocks.{tab}
use Rattle.run_tables.specs.Tables.{site_energy}
use Rattle.run_tables.proofs.sites.fill_sites.Given as goal

abbrev pub invariant-loop-i : goal.invariant-loop-i
invariant-loop-i l =
    take l.i l.energy-items ≡ tab (λ (j : ℕ). site_energy (system_of l.system) (bay_at l.z.rows l.z.cols (j / most_strands)) (j % most_strands)) l.i
