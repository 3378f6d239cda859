-- An answer as the numbers that a caller in C reads, and the system and constraints from what he gives. Assumes nothing.
use Rattle.std.specs.Prelude.{ℕ, cond, List, eqb, get_or, Float, Result, Ok, Err}
use Rattle.std.specs.Float.{binary64}
use Rattle.std.specs.Float.Ieee.{of_bits}
use Rattle.units.specs.declared.refusal.Refusal.{Refusal}
use Rattle.units.specs.Refusals.{number_of, values_of}
use Rattle.bay_system.specs.declared.sizes.Sizes.{Sizes}
use Rattle.bay_system.specs.System.{System}
use Rattle.bay_lists.specs.Lists.{Constraints, absent, lists}
use Rattle.run_export.specs.declared.RunNumbers.{RunNumbers}

-- no refusal is 0, and no energy is 0.0
abbrev pub numbers : Result Float Refusal → RunNumbers
numbers (Ok energy) = record { number = 0; first = 0; energy = energy }
numbers (Err r) = record { number = number_of r; first = get_or (values_of r) 0 0; energy = of_bits binary64 0 }

abbrev pub sizes : (rows cols strands glues : ℕ) → (kelvin : Float) → Sizes
sizes rows cols strands glues kelvin = record { rows = rows; cols = cols; strands = strands; glues = glues; kelvin = kelvin }

abbrev pub system : Sizes → (strand_glues scaffold : List ℕ) → (delta_g entropy logs : List Float) → (seeds : List ℕ) → System
system sizes strand_glues scaffold delta_g entropy logs seeds =
    record {
      sizes = sizes;
      strand_glues = strand_glues;
      scaffold = scaffold;
      delta_g = delta_g;
      entropy = entropy;
      logs = logs;
      seeds = seeds;
    }

-- 0 for absent constraints, 1 for lists; any other number is read as 1
abbrev pub constraints : (number : ℕ) → (offsets tiles : List ℕ) → Constraints
constraints number offsets tiles = cond (eqb number 0) absent (lists offsets tiles)
