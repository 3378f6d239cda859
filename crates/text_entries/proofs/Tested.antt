-- What a test tells that the code made, or that a verdict is about. Assumes nothing.
use Prim.Native.Nat.{ℕ, ◌+◌, ◌≤◌}
use mathlib.Core.Path.{◌≡◌, sym, ◌∙◌}
use mathlib.Core.Bool.{Bool, true, false, not}
use lib.Dec.{leb, eqb}
use borrow.Author.Tests.{leb-true, eqb-true, not-true, not-false}
use Rattle.units.specs.Limits.{most_name_bytes, from_one_to}
use Rattle.units.specs.declared.refusal.Refusal.{Refusal}
use Rattle.units.specs.Refusals.{passes, refuse_if}
use Rattle.units.proofs.Tests.{and_left, and_right, both}
use Rattle.units.proofs.Verdicts.{no_fault}
use Rattle.text_entries.specs.Entries.{entries_sized}

-- a test that the code made and found to fail, or to hold
pub fails : {t b : Bool} → t ≡ b → not t ≡ true → b ≡ false
fails {t} e h = sym e ∙ not-true t h

pub holds : {t b : Bool} → t ≡ b → not t ≡ false → b ≡ true
holds {t} e h = sym e ∙ not-false t h

-- a fault that a test looked for and did not find
pub no_fault_found : (b : Bool) (r : Refusal) → refuse_if (not b) r ≡ passes → b ≡ true
no_fault_found b r e = not-false b (no_fault (not b) r e)

-- a number from 1 to a limit
pub at_least_one : (most n : ℕ) → from_one_to most n ≡ true → 1 ≤ n
at_least_one most n e = leb-true 1 n (and_left (leb 1 n) (leb n most) e)

pub at_most : (most n : ℕ) → from_one_to most n ≡ true → n ≤ most
at_most most n e = leb-true n most (and_right (leb 1 n) (leb n most) e)

-- entries of the right sizes have the offsets and the presence bytes that they must have
pub counted : (text offsets present entries : ℕ) → entries_sized text offsets present entries ≡ true → (offsets ≡ entries + 1) × (present ≡ entries)
counted text offsets present entries e =
    let counts = both (eqb offsets (entries + 1)) (eqb present entries) (both (leb text most_name_bytes) _ e).1 in
    (eqb-true offsets (entries + 1) counts.0, eqb-true present entries counts.1)
