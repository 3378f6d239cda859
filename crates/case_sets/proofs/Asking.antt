-- What is told of a lent table, over plain lists. Assumes nothing.
use Prim.Native.Nat.{ℕ, ◌≤◌}
use mathlib.Core.Bool.{Bool}
use mathlib.Core.List.{List}
use mathlib.Core.Path.{◌≡◌}
use native.Mathlib.Omega.{arith}
use lib.ListN.{length}
use Rattle.units.specs.Refusals.{Verdict}
use Rattle.bay_system.specs.System.{System}
use Rattle.bay_lists.specs.Lists.{Constraints}
use Rattle.bay_legal.specs.Sets.{allowed_verdict, sets_after}
use Rattle.text_put.specs.Puts.{Put}
use Rattle.case_sets.specs.Answer.{sets_text, sevens, asked_text}

-- the library's answer and what the table holds then, put as they came
pub told : (s : System) (c : Constraints) (lent : List ℕ) (answer : Verdict) (kept : Bool) (after : List ℕ) → answer ≡ allowed_verdict s (length lent) c
    → after ≡ sets_after s c lent → kept ≡ sevens after → sets_text answer kept after ≡ asked_text s c lent
told s c lent answer kept after a t k = rw (k, t, a)

-- the answer ends within the text that was lent
pub ends_within : {old : List ℕ} {at : ℕ} {text : List ℕ} {r : ℕ} {out : List ℕ} → Put old at text r out → r ≤ length old
ends_within p = omega (arith, p.place)
