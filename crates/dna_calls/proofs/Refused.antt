-- What passed tests tell of a sequence. Assumes nothing.
use Prim.Native.Nat.{ℕ, ◌≤◌}
use mathlib.Core.Path.{◌≡◌, refl}
use mathlib.Core.List.{List}
use lib.Dec.{ltb}
use lib.ListN.{length}
use borrow.Author.Tests.{ltb-false}
use Rattle.std.specs.Prelude.{Option, None, Some, Ok, Err}
use Rattle.units.specs.Limits.{most_letters}
use Rattle.units.specs.Refusals.{Verdict, passes, ◌▷◌, answer}
use Rattle.units.proofs.Verdicts.{no_fault, first_passes, rest_passes}
use Rattle.dna_letters.specs.Letters.{length_verdict, letter_verdict, letters_verdict, first_bad}
use Rattle.dna_letters.proofs.Limits.{not_longer}
use Rattle.dna_single.specs.Single.{short_verdict, sequence_verdict, single_verdict}

-- letters that pass under one number pass under every other
any_number : (sequence other : ℕ) (place : Option ℕ) → letter_verdict sequence place ≡ passes → letter_verdict other place ≡ passes
any_number sequence other None e = refl
any_number sequence other (Some place) e = cc

-- a sequence that passed under another number passes alone
pub single_passes : (sequence : ℕ) (dna : List ℕ) → sequence_verdict sequence dna ≡ passes → single_verdict dna ≡ passes
single_passes sequence dna e =
    let rest = rest_passes (length_verdict dna) (letters_verdict sequence dna ▷ short_verdict dna) e in
    rw (
      first_passes (length_verdict dna) (letters_verdict sequence dna ▷ short_verdict dna) e,
      any_number sequence 0 (first_bad dna) (first_passes (letters_verdict sequence dna) (short_verdict dna) rest),
      rest_passes (letters_verdict sequence dna) (short_verdict dna) rest,
    )

-- a sequence that passed is not too long
pub single_short : (dna : List ℕ) → single_verdict dna ≡ passes → length dna ≤ most_letters
single_short dna e = not_longer dna (first_passes (length_verdict dna) (letters_verdict 0 dna ▷ short_verdict dna) e)

-- and at least 2
pub single_long : (dna : List ℕ) → single_verdict dna ≡ passes → 2 ≤ length dna
single_long dna e =
    ltb-false (length dna) 2
    (no_fault (ltb (length dna) 2) _
    (rest_passes (letters_verdict 0 dna) (short_verdict dna) (rest_passes (length_verdict dna) (letters_verdict 0 dna ▷ short_verdict dna) e)))

-- an answer with a value comes from tests that pass, and its value is the one that it was made of
pub answered : {A : Type 0} (v : Verdict) (value given : A) → answer v value ≡ Ok given → (v ≡ passes) × (given ≡ value)
answered (Ok tt) value given e = (refl, cc)
answered (Err r) value given e = cc
