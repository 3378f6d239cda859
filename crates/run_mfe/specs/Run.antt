-- The least-energy run as a call: what is refused of it, its answer, and what it leaves in the three lent slices. Assumes nothing.
use Rattle.std.specs.Prelude.{ℕ, List, Float, Result, length}
use Rattle.units.specs.declared.refusal.Refusal.{Refusal}
use Rattle.units.specs.Refusals.{Verdict}
use Rattle.bay_system.specs.System.{System}
use Rattle.bay_lists.specs.Lists.{Constraints}
use Rattle.bay_legal_at.specs.Legal.{is_legal}
use Rattle.bay_given.specs.Given.{given_verdict}
use Rattle.run_mfe.specs.RunBy.{early_by, sum_by, verdict_by, answer_by, layout_by, energies_by, notes_by}

-- what is refused before anything is written: 1 to 5, 7, 8, 9
abbrev pub early_verdict : System → Constraints → (layout energies notes : ℕ) → Verdict
early_verdict s c layout energies notes = early_by (given_verdict s layout c) s (is_legal s c) energies notes

-- 10: the least scan sum is NaN or minus infinity
abbrev pub sum_verdict : System → Constraints → Verdict
sum_verdict s c = sum_by s (is_legal s c)

abbrev pub run_verdict : System → Constraints → (layout energies notes : ℕ) → Verdict
run_verdict s c layout energies notes = verdict_by (given_verdict s layout c) s (is_legal s c) energies notes

-- the least energy in kcal/mol, or the refusal
abbrev pub mfe_answer : System → Constraints → (layout energies notes : ℕ) → Result Float Refusal
mfe_answer s c layout energies notes = answer_by (given_verdict s layout c) s (is_legal s c) energies notes

-- what the three lent slices hold afterwards
abbrev pub layout_after : System → Constraints → (energies notes : ℕ) → (old : List ℕ) → List ℕ
layout_after s c energies notes old = layout_by (given_verdict s (length old) c) s (is_legal s c) energies notes old

abbrev pub energies_after : System → Constraints → (layout notes : ℕ) → (old : List Float) → List Float
energies_after s c layout notes old = energies_by (given_verdict s layout c) s (is_legal s c) notes old

abbrev pub notes_after : System → Constraints → (layout energies : ℕ) → (old : List ℕ) → List ℕ
notes_after s c layout energies old = notes_by (given_verdict s layout c) s (is_legal s c) energies old
