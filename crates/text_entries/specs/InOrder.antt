-- Numbered things looked at one after the other: the first that passes a test, and what is refused of each. Assumes nothing.
use Rattle.std.specs.Prelude.{ℕ, zero, suc, Bool, cond, ltb, Option, Some, None}
use Rattle.units.specs.Refusals.{Verdict, passes, ◌▷◌}

-- the first of the k things from thing j on that passes a test, or the one after them
unfoldable pub first_from : (test : ℕ → Bool) → (j k : ℕ) → ℕ
first_from test j zero = j
first_from test j (suc k) = cond (test j) j (first_from test (suc j) k)

-- such a place where it is below `count`, and none where it is not
abbrev pub found : (count place : ℕ) → Option ℕ
found count place = cond (ltb place count) (Some place) None

-- what is refused of the k things from thing j on: the first that is refused counts
unfoldable pub each_from : (verdict : ℕ → Verdict) → (j k : ℕ) → Verdict
each_from verdict j zero = passes
each_from verdict j (suc k) = verdict j ▷ each_from verdict (suc j) k
