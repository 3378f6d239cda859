-- Bonds of glues: a cell of the two matrices at a temperature, in units of R·T. Assumes nothing.
use Rattle.std.specs.Prelude.{ℕ, Float}
use Rattle.units.specs.declared.StrandGlues.{StrandGlues}
use Rattle.units.specs.Glues.{north_of, east_of, south_of, west_of, bottom_of}
use Rattle.units.specs.Kelvin.{energy_at, times_beta}
use Rattle.bay_system.specs.System.{System}
use Rattle.bay_glues.specs.Tables.{cell_of}

module _ (s : System) where
  -- ΔG of two glues at a temperature: ΔG − (T − 310.15)·ΔS of cell (a, b)
  abbrev pub glue_glue_dg : (a b : ℕ) → Float
  glue_glue_dg a b = energy_at (cell_of s a b) s.sizes.kelvin

  -- the same in units of R·T
  abbrev pub glue_bond : (a b : ℕ) → Float
  glue_bond a b = times_beta (glue_glue_dg a b) s.sizes.kelvin

  -- the west strand's east glue to the east strand's west glue; the north strand's south glue to the south strand's north glue;
  -- the bay's glue to the strand's bottom glue: in that index order
  abbrev pub bond_we : (west_strand east_strand : StrandGlues) → Float
  bond_we west_strand east_strand = glue_bond (east_of west_strand) (west_of east_strand)

  abbrev pub bond_ns : (north_strand south_strand : StrandGlues) → Float
  bond_ns north_strand south_strand = glue_bond (south_of north_strand) (north_of south_strand)

  abbrev pub bond_with_scaffold : (glue : ℕ) → StrandGlues → Float
  bond_with_scaffold glue strand = glue_bond glue (bottom_of strand)
