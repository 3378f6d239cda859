-- The rules' starred cases hold of the definitions: one table, one statement. Those of sequences hold by the theorem of `utils`, the layouts by computing them.
-- Assumes nothing.
use mathlib.Core.Path.{◌≡◌, refl, sym, ap, ap₂, ◌∙◌}
use mathlib.Core.List.{List, [], ◌∷◌, ◌++◌, map, map-append}
use lib.Ieee.{round, of_bits, add, sub, mul, div, lt, le, ne}
use Rattle.units.specs.Decimals.{decimal}
use Rattle.units.specs.Finite.{finite}
use Rattle.units.specs.Kelvin.{gas_constant}
use Rattle.units.specs.Places.{first_failing}
use Rattle.dna_calls.specs.Starred.{Case as SequencesCase, starred as sequences_starred}
use Rattle.dna_calls.proofs.Starred.{starred_cases_hold as sequences_hold}
use Rattle.sets.specs.Set.{has, word, members}
use Rattle.text_entries.specs.Entries.{offsets_from}
use Rattle.bay_system.specs.System.{is_log, first_bad_seed}
use Rattle.energy_bays.specs.Energies.{bay_energy, edge_energy, is_bad}
use Rattle.bay_lists.specs.Lists.{names}
use Rattle.bay_legal_at.specs.Legal.{seed_at}
use Rattle.bay_legal.specs.Sets.{sets_to, first_empty}
use Rattle.ledger_rows.specs.Blocks.{tab, flat, size, leavers, newest, lower, lowest, energies, notes, need, energy_table}
use Rattle.ledger_rows.specs.Trace.{below, trace, answer_row}
use Rattle.case_starred.specs.Cases.{Outcome, sequence, Case, of_sequences, layouts, starred}

given : List Case → List Outcome
given = map (λ (c : Case). c.given)

printed : List Case → List Outcome
printed = map (λ (c : Case). c.printed)

layouts_hold : given layouts ≡ printed layouts
unfolding given printed layouts decimal round of_bits finite gas_constant first_failing has word members offsets_from is_log first_bad_seed bay_energy edge_energy is_bad names seed_at sets_to first_empty tab flat size leavers newest lower lowest energies notes need energy_table below trace answer_row add sub mul div lt le ne
layouts_hold = refl

-- ---- the sequences in their place

sequences_given : (cs : List SequencesCase) → given (of_sequences cs) ≡ map sequence (map (λ (c : SequencesCase). c.given) cs)
unfolding given
sequences_given [] = refl
sequences_given (c ∷ cs) = ap (λ (os : List Outcome). sequence c.given ∷ os) (sequences_given cs)

sequences_printed : (cs : List SequencesCase) → printed (of_sequences cs) ≡ map sequence (map (λ (c : SequencesCase). c.printed) cs)
unfolding printed
sequences_printed [] = refl
sequences_printed (c ∷ cs) = ap (λ (os : List Outcome). sequence c.printed ∷ os) (sequences_printed cs)

sequences_hold_lem : given (of_sequences sequences_starred) ≡ printed (of_sequences sequences_starred)
sequences_hold_lem = sequences_given sequences_starred ∙ ap (map sequence) sequences_hold ∙ sym (sequences_printed sequences_starred)

pub starred_cases_hold : map (λ (c : Case). c.given) starred ≡ map (λ (c : Case). c.printed) starred
unfolding given printed
starred_cases_hold =
    map-append (λ (c : Case). c.given) (of_sequences sequences_starred) layouts
    ∙ ap₂ (λ (a b : List Outcome). a ++ b) sequences_hold_lem layouts_hold
    ∙ sym (map-append (λ (c : Case). c.printed) (of_sequences sequences_starred) layouts)
