-- The energy of a bay and of two neighbours, in units of R·T: what every sum over a layout is made of. Assumes nothing.
use Rattle.std.specs.Prelude.{ℕ, Bool, true, false, cond, ◌||◌, eqb, Float}
use Rattle.std.specs.Float.{nan, inf, fin, binary64}
use Rattle.std.specs.Float.Ieee.{sub}
use Rattle.units.specs.Decimals.{plus}
use Rattle.bay_system.specs.System.{System}
use Rattle.bay_glues.specs.Tables.{glues_of, scaffold_glue, log_of}
use Rattle.bay_bonds.specs.Bonds.{bond_we, bond_ns, bond_with_scaffold}

-- 0.0
abbrev pub nothing : Float
nothing = plus 0 1

-- a bay with strand 0 costs 0.0, else its scaffold bond minus the strand's log concentration
unfoldable pub bay_energy : System → (bay strand : ℕ) → Float
bay_energy s bay strand =
    cond (eqb strand 0) nothing
    (sub binary64 (bond_with_scaffold s (scaffold_glue s.scaffold bay) (glues_of s.strand_glues strand)) (log_of s strand))

-- the bond of two strands, the first north of the second or west of it
abbrev pub pair_bond : System → (north_south : Bool) → (first second : ℕ) → Float
pair_bond s true first second = bond_ns s (glues_of s.strand_glues first) (glues_of s.strand_glues second)
pair_bond s false first second = bond_we s (glues_of s.strand_glues first) (glues_of s.strand_glues second)

-- a pair with an empty bay
abbrev pub empty_pair : (first second : ℕ) → Bool
empty_pair first second = eqb first 0 || eqb second 0

-- two neighbours: 0.0 where a bay is empty, else their bond
unfoldable pub edge_energy : System → (north_south : Bool) → (first second : ℕ) → Float
edge_energy s north_south first second = cond (empty_pair first second) nothing (pair_bond s north_south first second)

-- no energy: a NaN or minus infinity
unfoldable pub is_bad : Float → Bool
is_bad nan = true
is_bad (inf negative) = negative
is_bad (fin negative m e) = false
