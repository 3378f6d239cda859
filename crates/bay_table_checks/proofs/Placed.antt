-- The place that a search found is the one that the verdict on the whole list names. Assumes nothing.
use Prim.Native.Nat.{ℕ, zero, suc, ◌+◌}
use mathlib.Core.Path.{◌≡◌, refl}
use mathlib.Core.Bool.{Bool, true, false, cond, not}
use mathlib.Core.List.{List}
use native.Mathlib.Omega.{arith}
use lib.Dec.{ltb}
use lib.ListN.{length}
use Rattle.std.specs.Prelude.{Option, Some, None}
use Rattle.std.specs.List.{position, position_or_len}
use Rattle.std.proofs.lemmas.List.Recursion.{is_position_or_len}
use Rattle.units.specs.declared.refusal.Refusal.{Refusal}
use Rattle.units.specs.Places.{first_failing, place_verdict}
use Rattle.units.specs.Refusals.{Verdict, passes, refuses, refuse_if}

first_is_position : {A : Type 0} (test : A → Bool) (xs : List A) → first_failing test xs ≡ position_or_len (λ x. not (test x)) xs
unfolding first_failing
first_is_position test xs = is_position_or_len (first_failing test) (λ x. not (test x)) refl (λ x rest. step (test x) (first_failing test rest)) xs
  where
    step : (b : Bool) (n : ℕ) → cond b (suc n) zero ≡ cond (not b) 0 (1 + n)
    step true n = omega arith
    step false n = refl

-- the verdict that a place comes to
abbrev at_place : (ℕ → Refusal) → (from : ℕ) → Option ℕ → Verdict
at_place refusal from None = passes
at_place refusal from (Some p) = refuses (refusal (from + p))

by_place : {A : Type 0} (refusal : ℕ → Refusal) (from : ℕ) (test : A → Bool) (xs : List A)
    → place_verdict refusal from test xs ≡ at_place refusal from (position (λ x. not (test x)) xs)
by_place refusal from test xs = rw (first_is_position test xs) (by (ltb (position_or_len (λ x. not (test x)) xs) (length xs)) (position_or_len (λ x. not (test x)) xs))
  where
    by : (b : Bool) (n : ℕ) → refuse_if b (refusal (from + n)) ≡ at_place refusal from (cond b (Some n) None)
    by true n = refl
    by false n = refl

pub placed : {A : Type 0} (refusal : ℕ → Refusal) (from : ℕ) (test : A → Bool) (xs : List A) (p : ℕ)
    → position (λ x. not (test x)) xs ≡ Some p → place_verdict refusal from test xs ≡ refuses (refusal (from + p))
placed refusal from test xs p e = rw (by_place refusal from test xs, e)

pub none_placed : {A : Type 0} (refusal : ℕ → Refusal) (from : ℕ) (test : A → Bool) (xs : List A)
    → position (λ x. not (test x)) xs ≡ None → place_verdict refusal from test xs ≡ passes
none_placed refusal from test xs e = rw (by_place refusal from test xs, e)
