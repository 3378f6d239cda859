-- Legal strands worked out: the definitions compute, and say what the rules say. Assumes nothing.
use Prim.Native.Nat.{ℕ}
use mathlib.Core.Path.{◌≡◌, refl}
use mathlib.Core.Bool.{true, false}
use mathlib.Core.List.{List, [], ◌∷◌}
use lib.IntN.{pos, negsuc}
use lib.Ieee.{Float, fin, ne}
use Rattle.units.specs.Decimals.{decimal, plus, minus}
use Rattle.sets.specs.Set.{word}
use Rattle.bay_system.specs.System.{System}
use Rattle.bay_lists.specs.Lists.{absent}
use Rattle.bay_legal_at.specs.Legal.{seed_at, is_legal, set_at}

-- One row of two bays with glue 1; strands 1 and 2 have bottom glue 1, and cell (1, 1) has this ΔG and ΔS.
abbrev pair : (dg ds : Float) → (seeds : List ℕ) → System
pair dg ds seeds =
    let o = plus 0 1 in
    record {
      sizes = record { rows = 1; cols = 2; strands = 3; glues = 2; kelvin = plus 31015 100 };
      strand_glues = 0 ∷ 0 ∷ 0 ∷ 0 ∷ 0 ∷ 0 ∷ 0 ∷ 0 ∷ 0 ∷ 1 ∷ 0 ∷ 0 ∷ 0 ∷ 0 ∷ 1 ∷ [];
      scaffold = 1 ∷ 1 ∷ [];
      delta_g = o ∷ o ∷ o ∷ dg ∷ [];
      entropy = o ∷ o ∷ o ∷ ds ∷ [];
      logs = o ∷ o ∷ o ∷ [];
      seeds = seeds;
    }

abbrev minus_zero : Float
minus_zero = fin true 0 (pos 0)

-- minus zero is zero: with minus zero for ΔG and ΔS no strand but 0 is legal; the ΔG nearest to zero below it makes a bond
pub minus_zero_is_no_bond : is_legal (pair minus_zero minus_zero []) absent 0 1 ≡ false
unfolding decimal seed_at ne
minus_zero_is_no_bond = refl

pub only_the_empty_bay : set_at (pair minus_zero minus_zero []) absent 0 ≡ 1
unfolding decimal seed_at ne word
only_the_empty_bay = refl

pub below_zero_is_a_bond : is_legal (pair (fin true 1 (negsuc 1073)) minus_zero []) absent 0 1 ≡ true
unfolding decimal seed_at ne
below_zero_is_a_bond = refl

-- of two seeds on one bay the later wins, whichever it is, and the other bay keeps its own
pub later_seed_wins : set_at (pair minus_zero minus_zero (0 ∷ 0 ∷ 1 ∷ 0 ∷ 1 ∷ 1 ∷ 0 ∷ 0 ∷ 2 ∷ [])) absent 0 ≡ 4
unfolding decimal seed_at ne word
later_seed_wins = refl

pub seed_of_the_other_bay : set_at (pair minus_zero minus_zero (0 ∷ 0 ∷ 1 ∷ 0 ∷ 1 ∷ 1 ∷ 0 ∷ 0 ∷ 2 ∷ [])) absent 1 ≡ 2
unfolding decimal seed_at ne word
seed_of_the_other_bay = refl

pub later_seed_0_wins : set_at (pair minus_zero minus_zero (0 ∷ 0 ∷ 2 ∷ 0 ∷ 0 ∷ 0 ∷ [])) absent 0 ≡ 1
unfolding decimal seed_at ne word
later_seed_0_wins = refl

-- One bay with glue 1 or 2 and one strand with bottom glue 2 or 1; cell (1, 2) has a ΔG, and cell (2, 1) has none.
abbrev crossed : (bay bottom : ℕ) → System
crossed bay bottom =
    let o = plus 0 1 in
    record {
      sizes = record { rows = 1; cols = 1; strands = 2; glues = 3; kelvin = plus 31015 100 };
      strand_glues = 0 ∷ 0 ∷ 0 ∷ 0 ∷ 0 ∷ 0 ∷ 0 ∷ 0 ∷ 0 ∷ bottom ∷ [];
      scaffold = bay ∷ [];
      delta_g = o ∷ o ∷ o ∷ o ∷ o ∷ minus 1 1 ∷ o ∷ o ∷ o ∷ [];
      entropy = o ∷ o ∷ o ∷ o ∷ o ∷ o ∷ o ∷ o ∷ o ∷ [];
      logs = o ∷ o ∷ [];
      seeds = [];
    }

-- the index order: the bay's glue, then the strand's bottom glue
pub bay_then_bottom : is_legal (crossed 1 2) absent 0 1 ≡ true
unfolding decimal seed_at ne
bay_then_bottom = refl

pub bottom_then_bay : is_legal (crossed 2 1) absent 0 1 ≡ false
unfolding decimal seed_at ne
bottom_then_bay = refl
