-- What is refused of two sequences written letter over letter before their windows are gone through. Assumes nothing.
use Rattle.std.specs.Prelude.{ℕ, not, List, eqb, length}
use Rattle.units.specs.Refusals.{Verdict, refuse_if, ◌▷◌}
use Rattle.units.specs.declared.refusal.Refusal.TheVariants.{SequenceLength}
use Rattle.dna_letters.specs.Letters.{length_verdict, letters_verdict}

-- 13: the two differ in length
abbrev pub unequal_verdict : List ℕ → List ℕ → Verdict
unequal_verdict a b = refuse_if (not (eqb (length a) (length b))) SequenceLength

-- letters of the first, letters of the second, unequal lengths
abbrev pub pair_letters : List ℕ → List ℕ → Verdict
pair_letters a b = letters_verdict 0 a ▷ letters_verdict 1 b ▷ unequal_verdict a b

-- the limit of letters before them
abbrev pub pair_tests : List ℕ → List ℕ → Verdict
pair_tests a b = length_verdict a ▷ length_verdict b ▷ pair_letters a b
