-- `run_tables::bonds_of::fill_bonds` meets its contract. The invariant: the first i pairs are written. Assumes nothing.
use Prim.Native.Nat.{ℕ, ◌/◌, ◌%◌}
use mathlib.Core.Path.{◌≡◌}
use lib.ListN.{take}
use Rattle.units.specs.Limits.{most_strands}
use Rattle.bay_system.specs.System.{system_of}
use Rattle.ledger_rows.specs.Blocks.{tab}
use Rattle.run_tables.specs.Tables.{pair_energy}
use Rattle.run_tables.proofs.bonds_of.fill_bonds.Given as goal

abbrev pub invariant-loop-i : goal.invariant-loop-i
invariant-loop-i l = take l.i l.table ≡ tab (λ (j : ℕ). pair_energy (system_of l.system) l.north_south (j % most_strands) (j / most_strands)) l.i
