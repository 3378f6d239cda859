-- What a passed test of a sequence's length tells. Assumes nothing.
use Prim.Native.Nat.{ℕ, ◌≤◌}
use mathlib.Core.Path.{◌≡◌}
use mathlib.Core.List.{List}
use lib.Dec.{ltb}
use lib.ListN.{length}
use borrow.Author.Tests.{ltb-false}
use Rattle.units.specs.Limits.{most_letters}
use Rattle.units.specs.Refusals.{passes}
use Rattle.units.proofs.Verdicts.{no_fault}
use Rattle.dna_letters.specs.Letters.{length_verdict}

-- a sequence that passed is not too long
pub not_longer : (dna : List ℕ) → length_verdict dna ≡ passes → length dna ≤ most_letters
not_longer dna e = ltb-false most_letters (length dna) (no_fault (ltb most_letters (length dna)) _ e)
