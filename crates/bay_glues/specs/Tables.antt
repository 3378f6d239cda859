-- What the tables of glues and the two matrices hold. Assumes nothing.
use Rattle.std.specs.Prelude.{ℕ, ◌+◌, ◌*◌, List, Float, get_or}
use Rattle.std.specs.Float.{nan}
use Rattle.units.specs.declared.BaseEnergy.{BaseEnergy}
use Rattle.units.specs.declared.StrandGlues.{StrandGlues}
use Rattle.units.specs.Glues.{strand_glues}
use Rattle.bay_system.specs.System.{System}

-- where a strand's glues stand among its five: clockwise from the north, then the bottom
abbrev pub north_at : ℕ
north_at = 0

abbrev pub east_at : ℕ
east_at = 1

abbrev pub south_at : ℕ
south_at = 2

abbrev pub west_at : ℕ
west_at = 3

abbrev pub bottom_at : ℕ
bottom_at = 4

-- a strand's glue on one of its sides
abbrev pub glue_on : (table : List ℕ) → (strand side : ℕ) → ℕ
glue_on table strand side = get_or table (strand * 5 + side) 0

-- the five glues of a strand
abbrev pub glues_of : (table : List ℕ) → (strand : ℕ) → StrandGlues
glues_of table strand =
    strand_glues (glue_on table strand north_at) (glue_on table strand east_at) (glue_on table strand south_at) (glue_on table strand west_at) (glue_on table strand bottom_at)

-- the glue of a bay
abbrev pub scaffold_glue : List ℕ → ℕ → ℕ
scaffold_glue scaffold bay = get_or scaffold bay 0

-- cell (a, b)
abbrev pub cell_of : System → (a b : ℕ) → BaseEnergy
cell_of s a b =
    let at = a * s.sizes.glues + b in record { dg = get_or s.delta_g at nan; ds = get_or s.entropy at nan }

-- the log concentration of a strand
abbrev pub log_of : System → (strand : ℕ) → Float
log_of s strand = get_or s.logs strand nan
