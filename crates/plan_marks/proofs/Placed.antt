-- What the test of the lent slice and of the bay tells where it passed. Assumes nothing.
use Prim.Native.Nat.{ℕ, ◌<◌}
use mathlib.Core.Path.{◌≡◌}
use mathlib.Core.Bool.{not, ◌&&◌}
use lib.Dec.{eqb, ltb}
use borrow.Author.Tests.{eqb-true, ltb-true, not-false}
use Rattle.units.specs.Refusals.{passes}
use Rattle.units.proofs.Verdicts.{no_fault}
use Rattle.units.proofs.Tests.{both}
use Rattle.plan_marks.specs.Marks.{place_verdict}

pub record Placed (strands bay_count lent bay : ℕ) : Type 0 where
  pub room : lent ≡ strands
  pub inside : bay < bay_count

pub placed : (strands bay_count lent bay : ℕ) → place_verdict strands bay_count lent bay ≡ passes → Placed strands bay_count lent bay
placed strands bay_count lent bay e =
    let test = eqb lent strands in
    let rest = ltb bay bay_count in
    let two = both test rest (not-false (test && rest) (no_fault (not (test && rest)) _ e)) in
    record { room = eqb-true lent strands two.0; inside = ltb-true bay bay_count two.1 }
