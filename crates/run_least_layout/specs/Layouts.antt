-- What the customer asks of a run, once its tests have passed: its layout is legal, and no legal layout has a smaller scan sum. Assumes nothing.
use Rattle.std.specs.Prelude.{ℕ, ◌≡◌, Bool, true, false, List, ◌↔◌}
use Rattle.std.specs.Float.Ieee.{le}
use Rattle.bay_system.specs.System.{System, bays}
use Rattle.bay_lists.specs.Lists.{Constraints}
use Rattle.bay_legal_at.specs.Legal.{is_legal}
use Rattle.bay_legal_at.specs.Layouts.{LayoutBy}
use Rattle.energy_bays.specs.Energies.{is_bad}
use Rattle.energy_bays.specs.ScanSum.{scan_sum_of}
use Rattle.ledger_rows.specs.LeastEnergyTheorem.{LeastEnergyTheorem}
use Rattle.run_least_layout.specs.Run.{scan_by, least_sum_by, least_layout_by}

-- What a run over the strands that may lie on each bay promises, once its tests have passed.
pub record LeastBy (s : System) (may : ℕ → ℕ → Bool) : Type 0 where
  -- each row of the ledger, as the theorem over any scan says it
  pub ledger : LeastEnergyTheorem (scan_by s may) (bays s.sizes)
  -- the layout is one of them, and its scan sum is the answered one
  pub legal : LayoutBy s may (least_layout_by s may)
  pub sum : scan_sum_of s (least_layout_by s may) ≡ least_sum_by s may
  -- no such layout has a smaller scan sum
  pub no_smaller : is_bad (least_sum_by s may) ≡ false → (layout : List ℕ) → LayoutBy s may layout → le (least_sum_by s may) (scan_sum_of s layout) ≡ true
  -- refused with 10 exactly when some such layout's scan sum is NaN or minus infinity
  pub refused : (is_bad (least_sum_by s may) ≡ true) ↔ ((layout : List ℕ) × LayoutBy s may layout × (is_bad (scan_sum_of s layout) ≡ true))

-- What the run of a system promises, once its tests have passed.
abbrev pub LeastLayoutTheorem : System → Constraints → Type 0
LeastLayoutTheorem s c = LeastBy s (is_legal s c)
