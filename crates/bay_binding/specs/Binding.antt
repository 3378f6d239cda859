-- The strands that may lie on an unseeded bay, by its glue. Assumes nothing.
use Rattle.std.specs.Prelude.{ℕ, Bool, ◌||◌, eqb}
use Rattle.std.specs.Float.Ieee.{ne}
use Rattle.units.specs.declared.BaseEnergy.{BaseEnergy}
use Rattle.units.specs.Decimals.{plus}
use Rattle.units.specs.Glues.{bottom_of}
use Rattle.bay_system.specs.System.{System}
use Rattle.bay_glues.specs.Tables.{cell_of, glues_of}

-- a cell has a ΔG or a ΔS different from zero; minus zero is zero
abbrev pub is_bond : BaseEnergy → Bool
is_bond energy = ne energy.dg (plus 0 1) || ne energy.ds (plus 0 1)

-- a strand's bottom glue binds a glue
abbrev pub binds : System → (glue strand : ℕ) → Bool
binds s glue strand = is_bond (cell_of s glue (bottom_of (glues_of s.strand_glues strand)))

-- a strand that may lie on an unseeded bay with this glue: 0, and each strand that binds it
abbrev pub may_lie : System → (glue strand : ℕ) → Bool
may_lie s glue strand = eqb strand 0 || binds s glue strand
