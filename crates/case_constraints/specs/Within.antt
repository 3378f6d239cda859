-- What was read of constraints lies within the tables that were lent for them. Assumes nothing.
use Rattle.std.specs.Prelude.{ℕ, ◌≤◌, ◌≡◌, List, [], ◌∷◌, Option, Some, None, is_some, IfSome, take}
use Rattle.bay_lists.specs.Lists.{Constraints, absent, lists}
use Rattle.case_text.specs.Fields.{words, any_field}
use Rattle.case_constraints.specs.declared.ConstraintsRead.{ConstraintsRead}
use Rattle.case_constraints.specs.declared.ListCounts.{ListCounts}

-- the key "offsets"
abbrev pub offsets_key : List ℕ
offsets_key = 111 ∷ 102 ∷ 102 ∷ 115 ∷ 101 ∷ 116 ∷ 115 ∷ []

-- there are lists exactly where the line has that field
pub record ConstraintsWithin (r : ConstraintsRead) (line : List ℕ) (offsets tiles : ℕ) : Type 0 where
  pub where_given : is_some r.lists ≡ any_field offsets_key (words line)
  pub bay_ends : IfSome r.lists (λ counts. counts.offsets ≤ offsets)
  pub listed : IfSome r.lists (λ counts. counts.tiles ≤ tiles)

-- the lists at the fronts of two tables, as far as they were read
abbrev pub lists_in : Option ListCounts → (offsets tiles : List ℕ) → Constraints
lists_in (Some counts) offsets tiles = lists (take counts.offsets offsets) (take counts.tiles tiles)
lists_in None offsets tiles = absent

abbrev pub constraints_in : ConstraintsRead → (offsets tiles : List ℕ) → Constraints
constraints_in r offsets tiles = lists_in r.lists offsets tiles
