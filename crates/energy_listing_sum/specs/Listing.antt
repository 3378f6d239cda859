-- The listing sum of a layout, in units of R·T. Bays are numbered row by row. Assumes nothing.
use Rattle.std.specs.Prelude.{ℕ, zero, suc, ◌*◌, ◌-◌, ◌%◌, Bool, true, false, cond, List, eqb, ltb, Float, get_or}
use Rattle.std.specs.Float.{binary64}
use Rattle.std.specs.Float.Ieee.{add}
use Rattle.bay_system.specs.System.{System}
use Rattle.energy_bays.specs.Energies.{nothing, bay_energy, edge_energy}

-- the strand on a bay
abbrev pub strand_at : (layout : List ℕ) → (bay : ℕ) → ℕ
strand_at layout bay = get_or layout bay 0

module _ (s : System) (layout : List ℕ) where
  -- a sum and then the bond of a bay and another, which lies north of it or west of it
  abbrev pub with_edge : (north_south : Bool) → (other bay : ℕ) → Float → Float
  with_edge north_south other bay sum = add binary64 sum (edge_energy s north_south (strand_at layout other) (strand_at layout bay))

  -- a sum and then the bay's west bond; the first column has none
  unfoldable pub with_west : (bay : ℕ) → Float → Float
  with_west bay sum = cond (eqb (bay % s.sizes.cols) 0) sum (with_edge false (bay - 1) bay sum)

  -- a sum and then the bay's north bond; the first row has none
  unfoldable pub with_north : (bay : ℕ) → Float → Float
  with_north bay sum = cond (ltb bay s.sizes.cols) sum (with_edge true (bay - s.sizes.cols) bay sum)

  -- a sum and then bay, west bond, north bond, one after another
  abbrev pub with_bay : (bay : ℕ) → Float → Float
  with_bay bay sum = with_north bay (with_west bay (add binary64 sum (bay_energy s bay (strand_at layout bay))))

  -- from 0.0, over the first bays
  unfoldable pub listing : (bays : ℕ) → Float
  listing zero = nothing
  listing (suc bay) = with_bay bay (listing bay)

-- over all bays
abbrev pub listing_sum : System → (layout : List ℕ) → Float
listing_sum s layout = listing s layout (s.sizes.rows * s.sizes.cols)
