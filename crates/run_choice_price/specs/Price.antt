-- The price of a choice as a call: what is refused of it, its answer, and what it leaves in the three lent slices. Assumes nothing.
use Rattle.std.specs.Prelude.{ℕ, List, leb, Float, length, Result}
use Rattle.units.specs.declared.refusal.Refusal.{Refusal}
use Rattle.units.specs.declared.refusal.Refusal.TheVariants.{Shape}
use Rattle.units.specs.Refusals.{Verdict, refuse_if, ◌▷◌}
use Rattle.bay_system.specs.System.{System, bays}
use Rattle.bay_lists.specs.Lists.{Constraints}
use Rattle.bay_given.specs.Given.{given_verdict}
use Rattle.run_mfe.specs.RunBy.{verdict_by, answer_by, layout_by, energies_by, notes_by}
use Rattle.run_choice_price.specs.Choice.{chosen_legal}

-- 1 to 5 of what is given, and 5 where the bay is off the grid
abbrev pub choice_verdict : System → (lent : ℕ) → Constraints → (bay : ℕ) → Verdict
choice_verdict s lent c bay = given_verdict s lent c ▷ refuse_if (leb (bays s.sizes) bay) Shape

-- then 7, 8, 9 and 10, as of every run over what may lie on each bay
abbrev pub price_verdict : System → Constraints → (bay strand layout energies notes : ℕ) → Verdict
price_verdict s c bay strand layout energies notes = verdict_by (choice_verdict s layout c bay) s (chosen_legal s c bay strand) energies notes

-- the least energy with the strand on the bay, in kcal/mol, or the refusal
abbrev pub price_answer : System → Constraints → (bay strand layout energies notes : ℕ) → Result Float Refusal
price_answer s c bay strand layout energies notes = answer_by (choice_verdict s layout c bay) s (chosen_legal s c bay strand) energies notes

-- what the three lent slices hold afterwards
abbrev pub price_layout : System → Constraints → (bay strand energies notes : ℕ) → (old : List ℕ) → List ℕ
price_layout s c bay strand energies notes old = layout_by (choice_verdict s (length old) c bay) s (chosen_legal s c bay strand) energies notes old

abbrev pub price_energies : System → Constraints → (bay strand layout notes : ℕ) → (old : List Float) → List Float
price_energies s c bay strand layout notes old = energies_by (choice_verdict s layout c bay) s (chosen_legal s c bay strand) notes old

abbrev pub price_notes : System → Constraints → (bay strand layout energies : ℕ) → (old : List ℕ) → List ℕ
price_notes s c bay strand layout energies old = notes_by (choice_verdict s layout c bay) s (chosen_legal s c bay strand) energies old
