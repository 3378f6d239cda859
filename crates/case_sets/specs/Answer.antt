-- The line that answers a case of `allowed_tiles`. Assumes nothing.
use Rattle.std.specs.Prelude.{ℕ, Bool, List, ◌++◌, eqb, length, Ok, Err}
use Rattle.units.specs.Refusals.{Verdict}
use Rattle.bay_system.specs.System.{System}
use Rattle.bay_lists.specs.Lists.{Constraints}
use Rattle.bay_legal.specs.Sets.{allowed_verdict, sets_after}
use Rattle.text_put.specs.Puts.{number_text}
use Rattle.text_put.specs.Words.{bytes}
use Rattle.case_answer_lines.specs.Lines.{refused_text, tables_text}
use Rattle.case_answer_lists.specs.Lists.{listed}
use Rattle.case_lent.specs.Kept.{all_from}

-- `sets` and the table, or the refusal and whether the table is as it was
abbrev pub sets_text : Verdict → (kept : Bool) → (sets : List ℕ) → List ℕ
sets_text (Ok passed) kept sets = bytes "sets " ++ listed number_text 0 sets
sets_text (Err r) kept sets = refused_text r ++ tables_text kept

-- whether a table holds sevens
abbrev pub sevens : List ℕ → Bool
sevens table = all_from (λ x. eqb x 7) 0 table

-- what is told of a system and a lent table: the library's answer and what the table holds then
abbrev pub asked_text : System → Constraints → (lent : List ℕ) → List ℕ
asked_text s c lent = sets_text (allowed_verdict s (length lent) c) (sevens (sets_after s c lent)) (sets_after s c lent)
