-- The test of a choice: what it has seen to where it passes. Assumes nothing.
use Prim.Native.Nat.{ℕ, ◌<◌}
use mathlib.Core.Path.{◌≡◌}
use lib.Dec.{leb}
use borrow.Author.Tests.{leb-false}
use Rattle.units.specs.declared.refusal.Refusal.TheVariants.{Shape}
use Rattle.units.specs.Refusals.{Verdict, passes, refuse_if}
use Rattle.units.proofs.Verdicts.{no_fault, first_passes, rest_passes}
use Rattle.bay_system.specs.System.{System, bays}
use Rattle.bay_lists.specs.Lists.{Constraints}
use Rattle.bay_given.specs.Given.{given_verdict}
use Rattle.run_choice_price.specs.Price.{choice_verdict}

module _ (s : System) (lent : ℕ) (c : Constraints) (bay : ℕ) where
  abbrev pub off_grid : Verdict
  off_grid = refuse_if (leb (bays s.sizes) bay) Shape

  module _ (e : choice_verdict s lent c bay ≡ passes) where
    pub given_passes : given_verdict s lent c ≡ passes
    given_passes = first_passes (given_verdict s lent c) off_grid e

    pub inside : bay < bays s.sizes
    inside = leb-false (bays s.sizes) bay (no_fault (leb (bays s.sizes) bay) _ (rest_passes (given_verdict s lent c) off_grid e))
