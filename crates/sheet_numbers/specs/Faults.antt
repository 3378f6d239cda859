-- The first line of a column whose field is not what it should be. Assumes nothing.
use Rattle.std.specs.Prelude.{ℕ, ◌+◌, Bool, cond, List, [], ◌∷◌, Option, Some, None}

-- of lines that are sound or not, the first that is not, counted from a line on
unfoldable pub first_fault : (line : ℕ) → List Bool → Option ℕ
first_fault line [] = None
first_fault line (sound ∷ more) = cond sound (first_fault (line + 1) more) (Some line)

-- the fault found so far, or that of a line that is sound or not
unfoldable pub fault_or : Option ℕ → (sound : Bool) → (line : ℕ) → Option ℕ
fault_or (Some found) sound line = Some found
fault_or None sound line = cond sound None (Some line)
