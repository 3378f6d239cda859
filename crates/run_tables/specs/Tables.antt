-- What a run works out once: the bonds of all pairs of strands, and the energies of each bay's strands. A number below the
-- limit of strands that is no strand of the system has 0.0; no sum reads it. Assumes nothing.
use Rattle.std.specs.Prelude.{ℕ, ◌*◌, ◌/◌, ◌%◌, ◌≤◌, ◌<◌, ◌≡◌, Bool, cond, ◌&&◌, List, ltb, Float, length}
use Rattle.units.specs.Limits.{most_side, most_strands}
use Rattle.bay_system.specs.System.{System}
use Rattle.bay_glues.specs.Tables.{scaffold_glue}
use Rattle.energy_bays.specs.Energies.{nothing, bay_energy, edge_energy}
use Rattle.bay_scan_order.specs.Scan.{bay_at}
use Rattle.ledger_rows.specs.Blocks.{tab}

-- the bond of two numbers below the limit of strands
abbrev pub pair_energy : System → (north_south : Bool) → (first second : ℕ) → Float
pair_energy s north_south first second =
    cond (ltb first s.sizes.strands && ltb second s.sizes.strands) (edge_energy s north_south first second) nothing

-- of all pairs: a row for each strand, and in it the one that comes before it at its own place
abbrev pub bond_table : System → (north_south : Bool) → List Float
bond_table s north_south = tab (λ i. pair_energy s north_south (i % most_strands) (i / most_strands)) (most_strands * most_strands)

-- the energy of a bay with a number below the limit of strands
abbrev pub site_energy : System → (bay t : ℕ) → Float
site_energy s bay t = cond (ltb t s.sizes.strands) (bay_energy s bay t) nothing

-- of all bays in scan order: a row for each bay, and in it number t at place t
abbrev pub site_table : System → List Float
site_table s =
    tab (λ i. site_energy s (bay_at s.sizes.rows s.sizes.cols (i / most_strands)) (i % most_strands)) (s.sizes.rows * s.sizes.cols * most_strands)

-- what is asked of the bays: one glue each, below the count, on a grid within the limits, and a logarithm for each strand
pub record ReadableBays (s : System) : Type 0 where
  pub few_rows : s.sizes.rows ≤ most_side
  pub few_cols : s.sizes.cols ≤ most_side
  pub bays : length s.scaffold ≡ s.sizes.rows * s.sizes.cols
  pub glues : (bay : ℕ) → bay < length s.scaffold → scaffold_glue s.scaffold bay < s.sizes.glues
  pub each_strand : length s.logs ≡ s.sizes.strands
