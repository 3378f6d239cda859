-- The scan sum written out for two small grids, whatever their tables hold and whatever strands lie on them. Assumes nothing.
use Prim.Native.Nat.{ℕ}
use mathlib.Core.Path.{◌≡◌, refl}
use mathlib.Core.Bool.{true, false}
use mathlib.Core.List.{List, [], ◌∷◌}
use lib.Ieee.{Float, binary64, of_bits, add}
use Rattle.bay_system.specs.System.{System}
use Rattle.energy_bays.specs.Energies.{bay_energy, edge_energy}
use Rattle.energy_bays.specs.ScanSum.{scan_sum_to, scan_sum_of}

module _ (strands glues : ℕ) (kelvin : Float) (strand_glues scaffold : List ℕ) (delta_g entropy logs : List Float) (seeds : List ℕ) where
  abbrev grid : (rows cols : ℕ) → System
  grid rows cols =
      record {
        sizes = record { rows = rows; cols = cols; strands = strands; glues = glues; kelvin = kelvin };
        strand_glues = strand_glues;
        scaffold = scaffold;
        delta_g = delta_g;
        entropy = entropy;
        logs = logs;
        seeds = seeds;
      }

  -- a bay, counted row by row, with a strand; two strands of which the first lies west of the second, or north of it
  module _ (rows cols : ℕ) where
    abbrev bay : (number strand : ℕ) → Float
    bay number strand = bay_energy (grid rows cols) number strand

    abbrev west_east : (west east : ℕ) → Float
    west_east west east = edge_energy (grid rows cols) false west east

    abbrev north_south : (north south : ℕ) → Float
    north_south north south = edge_energy (grid rows cols) true north south

  infixl 6 ◌⊕◌
  abbrev ◌⊕◌ : Float → Float → Float
  x ⊕ y = add binary64 x y

  -- 2 × 2, rows are major lines: a b over c d is gone through as a, b, c, d, and d adds (bay + bond to b) + bond to c
  pub by_rows : (a b c d : ℕ)
      → scan_sum_of (grid 2 2) (a ∷ b ∷ c ∷ d ∷ [])
      ≡ of_bits binary64 0 ⊕ bay 2 2 0 a ⊕ (bay 2 2 1 b ⊕ west_east 2 2 a b) ⊕ (bay 2 2 2 c ⊕ north_south 2 2 a c) ⊕ (bay 2 2 3 d ⊕ north_south 2 2 b d ⊕ west_east 2 2 c d)
  unfolding scan_sum_to
  by_rows a b c d = refl

  -- 2 × 3, columns are: a b c over d e f is gone through as a, d, b, e, c, f, and e adds (bay + bond to d) + bond to b
  pub by_columns : (a b c d e f : ℕ)
      → scan_sum_of (grid 2 3) (a ∷ b ∷ c ∷ d ∷ e ∷ f ∷ [])
      ≡ of_bits binary64 0 ⊕ bay 2 3 0 a ⊕ (bay 2 3 3 d ⊕ north_south 2 3 a d) ⊕ (bay 2 3 1 b ⊕ west_east 2 3 a b) ⊕ (bay 2 3 4 e ⊕ west_east 2 3 d e ⊕ north_south 2 3 b e)
      ⊕ (bay 2 3 2 c ⊕ west_east 2 3 b c) ⊕ (bay 2 3 5 f ⊕ west_east 2 3 e f ⊕ north_south 2 3 c f)
  unfolding scan_sum_to
  by_columns a b c d e f = refl
