-- Letters of a sequence, and the tests on them. Assumes nothing.
use Rattle.std.specs.Prelude.{ℕ, Bool, not, ◌||◌, List, Option, None, Some, ltb, length, position}
use Rattle.units.specs.Limits.{most_letters}
use Rattle.units.specs.Refusals.{Verdict, passes, refuses, refuse_if}
use Rattle.units.specs.declared.refusal.Refusal.TheVariants.{Letter, SequenceLength}
use Rattle.dna_letters.specs.Bases.{is_a, is_c, is_g, is_t}

-- one of acgtACGT
unfoldable pub is_letter : ℕ → Bool
is_letter letter = is_a letter || (is_c letter || (is_g letter || is_t letter))

-- the place of the first byte that is no letter
abbrev pub first_bad : List ℕ → Option ℕ
first_bad dna = position (λ letter. not (is_letter letter)) dna

-- 13: more letters than the limit
abbrev pub length_verdict : List ℕ → Verdict
length_verdict dna = refuse_if (ltb most_letters (length dna)) SequenceLength

-- refused with which sequence and the place, where there is one
abbrev pub letter_verdict : ℕ → Option ℕ → Verdict
letter_verdict sequence None = passes
letter_verdict sequence (Some place) = refuses (Letter sequence place)

-- 11: a letter is not one of acgtACGT
abbrev pub letters_verdict : ℕ → List ℕ → Verdict
letters_verdict sequence dna = letter_verdict sequence (first_bad dna)
