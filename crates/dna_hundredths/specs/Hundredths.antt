-- ΔG of one sequence in whole hundredths of a kcal/mol, end term included. Assumes nothing.
use Rattle.std.specs.Prelude.{ℕ, zero, suc, ◌+◌, ◌-◌, Bool, true, false, cond, ◌||◌, List, ℤ, pos, ◌-ℤ◌, length}
use Rattle.dna_letters.specs.declared.DnaNucleotideBase.{DnaNucleotideBase}
use Rattle.dna_letters.specs.declared.DnaNucleotideBase.TheVariants.{A, T, G, C}
use Rattle.dna_letters.specs.Bases.{base_at}
use Rattle.dna_steps.specs.Steps.{step_of, start_hundredths}

-- whether a base is A or T
abbrev pub is_weak : DnaNucleotideBase → Bool
is_weak A = true
is_weak T = true
is_weak G = false
is_weak C = false

-- the end term: 5 when an end letter is A or T
unfoldable pub end_term : (first last : DnaNucleotideBase) → ℕ
end_term first last = cond (is_weak first || is_weak last) 5 0

-- −ΔG of the first n steps
unfoldable pub steps_hundredths : List ℕ → ℕ → ℕ
steps_hundredths dna zero = zero
steps_hundredths dna (suc n) = steps_hundredths dna n + (step_of (base_at dna n) (base_at dna (suc n))).dg

-- the table ×100, plus 196, plus the end term
abbrev pub single_hundredths : List ℕ → ℤ
single_hundredths dna =
    pos (start_hundredths + end_term (base_at dna 0) (base_at dna (length dna - 1))) -ℤ pos (steps_hundredths dna (length dna - 1))
