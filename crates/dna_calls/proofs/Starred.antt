-- The rules' starred cases hold of the definitions, by computing them: one table, one statement. Assumes nothing.
use mathlib.Core.Path.{◌≡◌, refl}
use mathlib.Core.List.{map}
use lib.Ieee.{of_bits, add}
use Rattle.units.specs.Decimals.{decimal}
use Rattle.dna_letters.specs.Bases.{base_of}
use Rattle.dna_letters.specs.Letters.{is_letter}
use Rattle.dna_steps.specs.Steps.{no_energy, step_of, dg_ds}
use Rattle.dna_mismatches.specs.Mismatches.{calc_penalty, penalty_table}
use Rattle.dna_loops.specs.Loops.{lengths, loop_table}
use Rattle.dna_pair_windows.specs.Windows.{windows_sum}
use Rattle.dna_hundredths.specs.Hundredths.{steps_hundredths, end_term}
use Rattle.dna_calls.specs.Starred.{Case, starred}

pub starred_cases_hold : map (λ (c : Case). c.given) starred ≡ map (λ (c : Case). c.printed) starred
unfolding starred of_bits add decimal base_of is_letter no_energy step_of dg_ds calc_penalty penalty_table lengths loop_table windows_sum steps_hundredths end_term
starred_cases_hold = refl
