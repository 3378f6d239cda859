-- Two sequences written letter over letter: what is refused of them, and the answer. Assumes nothing.
use Rattle.std.specs.Prelude.{ℕ, List, Result, Ok, Err}
use Rattle.units.specs.declared.BaseEnergy.{BaseEnergy}
use Rattle.units.specs.declared.refusal.Refusal.{Refusal}
use Rattle.units.specs.Refusals.{Verdict, passes, refuses, ◌▷◌, answer}
use Rattle.dna_steps.specs.Steps.{no_energy}
use Rattle.dna_pair_windows.specs.declared.PairSum.{PairSum}
use Rattle.dna_pair_windows.specs.Windows.{pair_sum}
use Rattle.dna_pair_checks.specs.Tests.{pair_tests}

-- 14, with the length: a closed loop's length has no value
abbrev pub loops_verdict : Result PairSum Refusal → Verdict
loops_verdict (Ok sum) = passes
loops_verdict (Err refusal) = refuses refusal

-- the sum where every closed loop has a value; a loop that is still open at the end adds nothing
abbrev pub energy_in : Result PairSum Refusal → BaseEnergy
energy_in (Ok sum) = sum.energy
energy_in (Err refusal) = no_energy

-- the tests, then the loops
abbrev pub pair_verdict : List ℕ → List ℕ → Verdict
pair_verdict a b = pair_tests a b ▷ loops_verdict (pair_sum a b)

abbrev pub sequence_pair_dg_ds : List ℕ → List ℕ → Result BaseEnergy Refusal
sequence_pair_dg_ds a b = answer (pair_verdict a b) (energy_in (pair_sum a b))
