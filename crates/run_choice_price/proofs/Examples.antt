-- The call on one bay, computed: the order of its refusals, and what counts on the chosen bay. Assumes nothing.
use Prim.Native.Nat.{ℕ}
use mathlib.Core.Path.{◌≡◌, refl}
use mathlib.Core.List.{List, [], ◌∷◌}
use lib.Ieee.{round, of_bits, add, sub, mul, div, lt, le, ne}
use Rattle.std.specs.Prelude.{Err}
use Rattle.units.specs.declared.refusal.Refusal.TheVariants.{Glue, Shape, NoLegalStrand, NoRoom}
use Rattle.units.specs.Decimals.{decimal, plus, minus}
use Rattle.units.specs.Finite.{finite}
use Rattle.units.specs.Kelvin.{gas_constant}
use Rattle.units.specs.Places.{first_failing}
use Rattle.units.specs.Refusals.{refuses}
use Rattle.sets.specs.Set.{has, word, members}
use Rattle.text_entries.specs.Entries.{offsets_from}
use Rattle.bay_system.specs.System.{System, is_log, first_bad_seed}
use Rattle.energy_bays.specs.Energies.{bay_energy, edge_energy, is_bad}
use Rattle.bay_lists.specs.Lists.{Constraints, absent, lists, names}
use Rattle.bay_legal_at.specs.Legal.{seed_at}
use Rattle.bay_legal.specs.Sets.{sets_to, first_empty}
use Rattle.ledger_rows.specs.Blocks.{tab, flat, size, leavers, newest, lower, lowest, energies, notes, need}
use Rattle.ledger_rows.specs.Trace.{below, trace, answer_row}
use Rattle.run_choice_price.specs.Price.{price_verdict, price_answer, price_layout}

-- 1×1 at 310.15 K: the bottom glue of strand 1, of which glue 1 meets the bay's with a ΔG of −1, and seeds
abbrev one : (glue : ℕ) → (seeds : List ℕ) → System
one glue seeds =
    record {
      sizes = record { rows = 1; cols = 1; strands = 2; glues = 2; kelvin = plus 31015 100 };
      strand_glues = 0 ∷ 0 ∷ 0 ∷ 0 ∷ 0 ∷ 0 ∷ 0 ∷ 0 ∷ 0 ∷ glue ∷ [];
      scaffold = 1 ∷ [];
      delta_g = plus 0 1 ∷ plus 0 1 ∷ plus 0 1 ∷ minus 1 1 ∷ [];
      entropy = plus 0 1 ∷ plus 0 1 ∷ plus 0 1 ∷ plus 0 1 ∷ [];
      logs = plus 0 1 ∷ plus 0 1 ∷ [];
      seeds = seeds;
    }

-- the bay's list is `0`
abbrev kept_empty : Constraints
kept_empty = lists (0 ∷ 1 ∷ []) (0 ∷ [])

-- a glue 9 of two, and a bay off the grid: 2, with the glue's place; 5 once the glue is right
two_before_five : price_answer (one 9 []) absent 5 0 1 2 2 ≡ Err (Glue 9)
unfolding decimal round finite first_failing le
two_before_five = refl

five : price_verdict (one 1 []) absent 5 0 1 2 2 ≡ refuses Shape
unfolding decimal round finite first_failing is_log first_bad_seed lt le
five = refl

-- short tables, and a strand that there is none of: 7, with the bay; 9 with the need for one that there is
seven_before_nine : price_verdict (one 1 []) absent 0 2 1 0 0 ≡ refuses (NoLegalStrand 0)
unfolding decimal round of_bits finite first_failing is_log first_bad_seed lt le ne has word members seed_at sets_to first_empty
seven_before_nine = refl

nine : price_verdict (one 1 []) absent 0 1 1 0 0 ≡ refuses (NoRoom 1)
unfolding decimal round of_bits finite first_failing is_log first_bad_seed lt le ne has word members seed_at sets_to first_empty need size tab flat
nine = refl

-- the strand does not bind the bay's glue, or another strand is seeded there: 7
not_bound : price_verdict (one 0 []) absent 0 1 1 2 2 ≡ refuses (NoLegalStrand 0)
unfolding decimal round of_bits finite first_failing is_log first_bad_seed lt le ne has word members seed_at sets_to first_empty
not_bound = refl

seeded : price_verdict (one 1 (0 ∷ 0 ∷ 0 ∷ [])) absent 0 1 1 2 2 ≡ refuses (NoLegalStrand 0)
unfolding decimal round of_bits finite first_failing is_log first_bad_seed lt le ne has word members seed_at sets_to first_empty
seeded = refl

-- the bay's own list does not count: strand 1 is left on it
not_listed : price_layout (one 1 []) kept_empty 0 1 2 2 (7 ∷ []) ≡ 1 ∷ []
unfolding decimal round of_bits finite gas_constant first_failing has word members offsets_from is_log first_bad_seed bay_energy edge_energy is_bad names seed_at sets_to first_empty tab flat size leavers newest lower lowest energies notes need below trace answer_row add sub mul div lt le ne
not_listed = refl
