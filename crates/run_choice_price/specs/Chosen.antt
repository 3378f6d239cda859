-- What the price of a choice is, in the system's own words. Assumes nothing.
use Rattle.std.specs.Prelude.{ℕ, ◌<◌, ◌≡◌, true, List, Float, length, get_or}
use Rattle.std.specs.Float.Ieee.{le}
use Rattle.bay_system.specs.System.{System, bays}
use Rattle.bay_lists.specs.Lists.{Constraints, absent}
use Rattle.bay_legal_at.specs.Legal.{is_legal}
use Rattle.energy_state.specs.StateG.{in_kcal}
use Rattle.energy_bays.specs.ScanSum.{scan_sum_of}

-- a strand for each bay, row by row: on the chosen bay the strand, which is legal there without constraints, and on every other bay one that is legal there
pub record ChosenLayout (s : System) (c : Constraints) (bay strand : ℕ) (layout : List ℕ) : Type 0 where
  pub long : length layout ≡ bays s.sizes
  pub has : get_or layout bay 0 ≡ strand
  pub there : is_legal s absent bay strand ≡ true
  pub elsewhere : (other : ℕ) → other < bays s.sizes → (other ≡ bay → ⊥) → is_legal s c other (get_or layout other 0) ≡ true

-- the energy is that of such a layout, and no such layout has a smaller scan sum
pub record PriceTheorem (s : System) (c : Constraints) (bay strand : ℕ) (energy : Float) (layout : List ℕ) : Type 0 where
  pub laid : ChosenLayout s c bay strand layout
  pub energy_is : energy ≡ in_kcal (scan_sum_of s layout) s.sizes.kelvin
  pub no_smaller : (other : List ℕ) → ChosenLayout s c bay strand other → le (scan_sum_of s layout) (scan_sum_of s other) ≡ true
