-- What may lie on the bays of a grid once a strand is chosen for one of them. Assumes nothing.
use Rattle.std.specs.Prelude.{ℕ, Bool, cond, ◌&&◌, List, eqb}
use Rattle.bay_system.specs.System.{System, bays}
use Rattle.bay_lists.specs.Lists.{Constraints, absent}
use Rattle.bay_legal_at.specs.Legal.{is_legal}
use Rattle.bay_legal.specs.Sets.{sets_to}

-- on the chosen bay the strand alone, where it is legal there without constraints; on every other bay what is legal there
abbrev pub chosen_legal : System → Constraints → (chosen strand : ℕ) → (bay t : ℕ) → Bool
chosen_legal s c chosen strand = λ bay t. cond (eqb bay chosen) (is_legal s absent bay t && eqb t strand) (is_legal s c bay t)

-- the sets of all bays, row by row
abbrev pub chosen_sets : System → Constraints → (chosen strand : ℕ) → List ℕ
chosen_sets s c chosen strand = sets_to (chosen_legal s c chosen strand) (bays s.sizes)
