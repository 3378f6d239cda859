-- What a grid that passed its test has: sides of at most 32, and so at most 1024 bays. Assumes nothing.
use Prim.Native.Nat.{ℕ, ◌*◌, ◌≤◌}
use mathlib.Core.Bool.{Bool, true, false, not, ◌&&◌}
use mathlib.Core.Path.{◌≡◌, refl}
use native.Mathlib.Nat.{mul-le-mul}
use borrow.Author.Tests.{leb-true}
use lib.Dec.{leb}
use Rattle.units.proofs.Tests.{and_left, and_right}
use Rattle.units.specs.Limits.{most_side, from_one_to}
use Rattle.units.specs.declared.refusal.Refusal.{Refusal}
use Rattle.units.specs.Refusals.{passes, refuse_if}
use Rattle.sheet.specs.Read.{grid_verdict}

-- a test that did not refuse
pub held : (b : Bool) (r : Refusal) → refuse_if (not b) r ≡ passes → b ≡ true
held true r e = refl
held false r e = absurd cc

pub sides : (rows columns : ℕ) → grid_verdict rows columns ≡ passes → (rows ≤ most_side) × (columns ≤ most_side)
sides rows columns e =
    let both = held (from_one_to most_side rows && from_one_to most_side columns) _ e in
    let r = leb-true rows most_side (and_right (leb 1 rows) (leb rows most_side) (and_left (from_one_to most_side rows) (from_one_to most_side columns) both)) in
    let c = leb-true columns most_side (and_right (leb 1 columns) (leb columns most_side) (and_right (from_one_to most_side rows) (from_one_to most_side columns) both)) in
    (r, c)

pub few_bays : (rows columns : ℕ) → grid_verdict rows columns ≡ passes → rows * columns ≤ most_side * most_side
few_bays rows columns e = let s = sides rows columns e in mul-le-mul s.0 s.1
