-- The walk over a set to the strand at a position. Assumes nothing.
use mathlib.Core.Path.{◌≡◌, sym, ap, ◌∙◌, subst}
use Prim.Native.Nat.{ℕ, ◌+◌, ◌≤◌, ◌<◌}
use native.Mathlib.Omega.{arith}
use lib.ListN.{length, get_or}
use Rattle.units.specs.Limits.{most_strands}
use Rattle.sets.specs.Set.{has, next_of}
use Rattle.sets.proofs.Members.{member}
use Rattle.sets.proofs.Walk.{Counted, turn}
use Rattle.ledger_row_choice.specs.Row.{strands_of}
use Rattle.ledger_row_choice.proofs.Reading.{any_default}

module _ (set p : ℕ) (inside : p < length (strands_of set)) {steps t : ℕ} (stands : Counted (has set) most_strands steps t) (few : steps ≤ p) where
  place : t ≡ get_or (strands_of set) steps 0
  place = stands.here ∙ any_default (strands_of set) steps most_strands 0 (omega arith)

  pub stepping_small : t < most_strands
  stepping_small = subst (λ s. s < most_strands) (sym place) (member (has set) most_strands steps 0 (omega arith)).below

  pub stepping_turns : {u : ℕ} → u ≡ next_of (has set) (t + 1) most_strands → Counted (has set) most_strands (steps + 1) u
  stepping_turns {u} e = (turn (has set) most_strands steps t stands stepping_small).goes_on u e

  pub stepping_ends : p ≤ steps → t ≡ get_or (strands_of set) p 0
  stepping_ends h = place ∙ ap (λ i. get_or (strands_of set) i 0) (omega arith)
