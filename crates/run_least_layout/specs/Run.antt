-- The least-energy run: its bays in scan order, the rows that it needs, the least scan sum and the layout. Assumes nothing.
use Rattle.std.specs.Prelude.{ℕ, suc, ◌*◌, ◌-◌, Bool, not, List, Float, get_or}
use Rattle.bay_system.specs.System.{System}
use Rattle.bay_lists.specs.Lists.{Constraints}
use Rattle.bay_legal_at.specs.Legal.{is_legal}
use Rattle.bay_scan_order.specs.Scan.{by_rows, window, number_at}
use Rattle.bay_legal.specs.Sets.{bays, sets_to}
use Rattle.ledger_rows.specs.Scan.{Scan}
use Rattle.ledger_rows.specs.Blocks.{tab, need}
use Rattle.ledger_rows.specs.Trace.{answer, layout}
use Rattle.ledger_row_choice.specs.declared.Bonds.{Bonds}
use Rattle.ledger_fill.specs.Handed.{run_scan}
use Rattle.run_scan_tables.specs.Order.{scan_sets}
use Rattle.run_tables.specs.Tables.{bond_table, site_table}

-- the bonds of all pairs of strands: to the previous major line, and to the previous bay of the same line
abbrev pub bonds_of : System → Bonds
bonds_of s =
    let lines = by_rows s.sizes.rows s.sizes.cols in record { major = bond_table s lines; side = bond_table s (not lines) }

-- the bays of a grid in scan order, by their sets: strands by rising number, and (bay + bond to the previous major line) + bond to the previous bay
abbrev pub table_scan : System → (scan : List ℕ) → Scan
table_scan s scan = run_scan (window s.sizes.rows s.sizes.cols) scan (site_table s) (bonds_of s)

-- a filling, newest bay first, as a layout row by row
abbrev pub row_by_row : (rows cols : ℕ) → (filling : List ℕ) → List ℕ
row_by_row rows cols filling = tab (λ bay. get_or filling (rows * cols - suc (number_at rows cols bay)) 0) (rows * cols)

-- ---- the run over the strands that may lie on each bay, as any test has it
module _ (s : System) (may : ℕ → ℕ → Bool) where
  -- the bays, with these strands
  abbrev pub scan_by : Scan
  scan_by = table_scan s (scan_sets s.sizes.rows s.sizes.cols (sets_to may (bays s.sizes)))

  -- the rows that the ledger needs, and the least scan sum
  abbrev pub need_by : ℕ
  need_by = need scan_by (bays s.sizes)

  abbrev pub least_sum_by : Float
  least_sum_by = answer scan_by (bays s.sizes)

  -- the layout of least energy
  abbrev pub least_layout_by : List ℕ
  least_layout_by = row_by_row s.sizes.rows s.sizes.cols (layout scan_by (bays s.sizes))

-- ---- the run over the legal strands of a system
abbrev pub system_scan : System → Constraints → Scan
system_scan s c = scan_by s (is_legal s c)

abbrev pub run_need : System → Constraints → ℕ
run_need s c = need_by s (is_legal s c)

abbrev pub least_sum : System → Constraints → Float
least_sum s c = least_sum_by s (is_legal s c)

abbrev pub least_layout : System → Constraints → List ℕ
least_layout s c = least_layout_by s (is_legal s c)
