-- The first place at which a test fails, as many refusals return it. Assumes nothing.
use Rattle.std.specs.Prelude.{ℕ, zero, suc, ◌+◌, Bool, cond, List, [], ◌∷◌, ltb, length}
use Rattle.units.specs.declared.refusal.Refusal.{Refusal}
use Rattle.units.specs.Refusals.{Verdict, refuse_if}

-- the place of the first element that fails a test, the length where none does
unfoldable pub first_failing : {A : Type 0} → (A → Bool) → List A → ℕ
first_failing test [] = zero
first_failing test (x ∷ xs) = cond (test x) (suc (first_failing test xs)) zero

-- refused with that place, counted on from `from`, where some element fails
abbrev pub place_verdict : {A : Type 0} → (ℕ → Refusal) → (from : ℕ) → (A → Bool) → List A → Verdict
place_verdict refusal from test xs = refuse_if (ltb (first_failing test xs) (length xs)) (refusal (from + first_failing test xs))
