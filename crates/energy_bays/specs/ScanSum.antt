-- The scan sum: one rounded number for each bay, in scan order. Assumes nothing.
use Rattle.std.specs.Prelude.{ℕ, zero, suc, ◌-◌, ◌%◌, Bool, cond, not, List, eqb, leb, Float, get_or}
use Rattle.std.specs.Float.{binary64}
use Rattle.std.specs.Float.Ieee.{of_bits, add}
use Rattle.bay_system.specs.System.{System, bays}
use Rattle.bay_scan_order.specs.Scan.{by_rows, window, bay_at}
use Rattle.energy_bays.specs.Energies.{bay_energy, edge_energy}

-- where a neighbour is there, its bond is added
abbrev pub with_bond : (there : Bool) → (bond x : Float) → Float
with_bond there bond x = cond there (add binary64 x bond) x

module _ (s : System) where
  -- major lines are rows
  abbrev lines : Bool
  lines = by_rows s.sizes.rows s.sizes.cols

  -- how long a major line is: the shorter side of the grid
  abbrev side : ℕ
  side = window s.sizes.rows s.sizes.cols

  -- what strand `own` adds on the bay that is scanned as number k, with `before` on the bay of the previous major line and `beside` on the previous
  -- bay: (bay + bond to the previous major line) + bond to the previous bay of this line, absent ones left out
  abbrev pub bay_number : (k before beside own : ℕ) → Float
  bay_number k before beside own =
      with_bond (not (eqb (k % side) 0)) (edge_energy s (not lines) beside own)
      (with_bond (leb side k) (edge_energy s lines before own)
      (bay_energy s (bay_at s.sizes.rows s.sizes.cols k) own))

  -- the scan sum over the first bays, as many as the second argument says, with `strand_at j` on the bay that is scanned as number j: from 0.0, one number
  -- a bay. A neighbour that is not there is asked for too, and `bay_number` leaves it out.
  unfoldable pub scan_sum_to : (strand_at : ℕ → ℕ) → (k : ℕ) → Float
  scan_sum_to strand_at zero = of_bits binary64 0
  scan_sum_to strand_at (suc k) = add binary64 (scan_sum_to strand_at k) (bay_number k (strand_at (k - side)) (strand_at (k - 1)) (strand_at k))

  -- the strand that a layout, row by row, has on the bay that is scanned as number k
  abbrev pub scanned_strand : (layout : List ℕ) → (k : ℕ) → ℕ
  scanned_strand layout k = get_or layout (bay_at s.sizes.rows s.sizes.cols k) 0

  -- the scan sum of a layout
  abbrev pub scan_sum_of : (layout : List ℕ) → Float
  scan_sum_of layout = scan_sum_to (scanned_strand layout) (bays s.sizes)
