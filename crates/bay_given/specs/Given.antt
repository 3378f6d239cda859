-- What is refused of what is given, a system and its constraints, and what the functions behind the tests ask. Assumes nothing.
use Rattle.std.specs.Prelude.{ℕ, ◌*◌, ◌≤◌, ◌≡◌, true, not, ◌&&◌, eqb, length}
use Rattle.units.specs.Limits.{most_side}
use Rattle.units.specs.Refusals.{Verdict, refuse_if, ◌▷◌}
use Rattle.units.specs.declared.refusal.Refusal.TheVariants.{Shape}
use Rattle.bay_system.specs.declared.sizes.Sizes.{Sizes}
use Rattle.bay_system.specs.System.{System, bays, system_verdict}
use Rattle.bay_lists.specs.Lists.{Constraints, offsets_shaped}
use Rattle.bay_legal_at.specs.OnGrid.{Grid}

-- 5: the slice lent with a place for each bay, or the constraint offsets, have the wrong shape
abbrev pub shape_verdict : Sizes → (lent : ℕ) → Constraints → Verdict
shape_verdict z lent c = refuse_if (not (eqb lent (bays z) && offsets_shaped (bays z) c)) Shape

-- 1 to 4, then 5
abbrev pub given_verdict : System → (lent : ℕ) → Constraints → Verdict
given_verdict s lent c = system_verdict s ▷ shape_verdict s.sizes lent c

-- what the functions behind the tests ask of a system and its constraints
pub record Given (s : System) (c : Constraints) : Type 0 where
  pub grid : Grid s
  pub shaped : offsets_shaped (length s.scaffold) c ≡ true
  pub few_rows : s.sizes.rows ≤ most_side
  pub few_cols : s.sizes.cols ≤ most_side
  pub bay_count : length s.scaffold ≡ s.sizes.rows * s.sizes.cols
