-- One row of a block, from what the code has at hand: what a strand adds, and the lowest sum over the strands that leave. Assumes nothing.
use Rattle.std.specs.Prelude.{List, ℕ, ◌+◌, ◌*◌, Float, get_or, Option, Some, None}
use Rattle.std.specs.Float.{nan, binary64}
use Rattle.std.specs.Float.Ieee.{add}
use Rattle.units.specs.Limits.{most_strands}
use Rattle.floats.specs.declared.Choice.{Choice}
use Rattle.sets.specs.Set.{has, members}
use Rattle.energy_bays.specs.ScanSum.{with_bond}
use Rattle.ledger_rows.specs.Blocks.{held_at, row_from}
use Rattle.ledger_row_choice.specs.declared.Own.{Own}

-- the strands of a set, by rising number
abbrev pub strands_of : (set : ℕ) → List ℕ
strands_of set = members (has set) most_strands

-- the bond of strand s with strand t, which comes after it: those of one t stand side by side
abbrev pub bond_at : (table : List Float) → (s t : ℕ) → Float
bond_at table s t = get_or table (t * most_strands + s) nan

-- with the bond to the previous bay, where there is one
abbrev pub with_side : Option Float → (x : Float) → Float
with_side (Some bond) x = add binary64 x bond
with_side None x = x

-- what a strand adds, with strand s on the bay of the previous major line
abbrev pub own_adds : Own → (major : List Float) → (s : ℕ) → Float
own_adds own major s = with_side own.side (with_bond own.below (bond_at major s own.strand) own.bay)

-- the sum with which strand s leaves row i of the block before
abbrev pub left_by : Own → (major before : List Float) → (i s : ℕ) → Choice
left_by own major before i s = record { energy = add binary64 (held_at before i) (own_adds own major s); who = s }

-- the row for one strand: the lowest over the strands that leave
abbrev pub own_row : Own → (major before : List Float) → (leaving width q : ℕ) → Choice
own_row own major before leaving width q = row_from before width (strands_of leaving) (λ a s. own_adds own major s) q
