-- What is known of a system and its constraints that passed the tests. Assumes nothing.
use Prim.Native.Nat.{ℕ, ◌*◌, ◌≤◌}
use mathlib.Core.Path.{◌≡◌, sym, ◌∙◌, ap}
use mathlib.Core.Bool.{true, not, ◌&&◌}
use native.Mathlib.Nat.{mul-le-mul}
use native.Mathlib.Omega.{arith}
use lib.Dec.{eqb}
use lib.ListN.{length}
use borrow.Author.Tests.{eqb-true, not-false}
use Rattle.units.specs.Limits.{most_side}
use Rattle.units.specs.Refusals.{passes}
use Rattle.units.proofs.Tests.{both}
use Rattle.units.proofs.Verdicts.{no_fault, first_passes, rest_passes}
use Rattle.bay_system.specs.System.{System, bays, system_verdict}
use Rattle.bay_system.proofs.Fine.{Fine, fine}
use Rattle.bay_lists.specs.Lists.{Constraints, offsets_shaped}
use Rattle.bay_legal_at.proofs.Sound.{sound}
use Rattle.bay_given.specs.Given.{shape_verdict, given_verdict, Given}

module _ (s : System) (lent : ℕ) (c : Constraints) (p : given_verdict s lent c ≡ passes) where
  pub system_passes : system_verdict s ≡ passes
  system_passes = first_passes (system_verdict s) (shape_verdict s.sizes lent c) p

  pub is_fine : Fine s
  is_fine = fine s system_passes

  shape : (lent ≡ bays s.sizes) × (offsets_shaped (bays s.sizes) c ≡ true)
  shape =
      let test = eqb lent (bays s.sizes) in
      let rest = offsets_shaped (bays s.sizes) c in
      let two = both test rest (not-false (test && rest) (no_fault (not (test && rest)) _ (rest_passes (system_verdict s) (shape_verdict s.sizes lent c) p))) in
      (eqb-true lent (bays s.sizes) two.0, two.1)

  -- the lent slice has a place for each bay
  pub room : lent ≡ length s.scaffold
  room = shape.0 ∙ sym is_fine.shape.scaffold

  pub shaped : offsets_shaped (length s.scaffold) c ≡ true
  shaped = ap (λ (n : ℕ). offsets_shaped n c) is_fine.shape.scaffold ∙ shape.1

  -- a grid has at most so many bays
  pub few_bays : length s.scaffold ≤ most_side * most_side
  few_bays = let sizes = is_fine.shape.sizes in omega (arith, is_fine.shape.scaffold, mul-le-mul sizes.rows sizes.cols)

  pub asked : Given s c
  asked =
      let f = is_fine in
      record { grid = sound s system_passes; shaped = shaped; few_rows = f.shape.sizes.rows; few_cols = f.shape.sizes.cols; bay_count = f.shape.scaffold }
