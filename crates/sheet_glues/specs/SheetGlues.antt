-- The glue names of a strands' sheet and a scaffold's sheet, laid one after the other, and what registering them leaves. Assumes nothing.
use Rattle.std.specs.Prelude.{ℕ, ◌-◌, min, ◌≡◌, length, take, Result}
use mathlib.Core.List.{List, ◌∷◌, ◌++◌, map, flatten}
use Rattle.units.specs.declared.refusal.Refusal.{Refusal}
use Rattle.name_glues.specs.Names.{GlueNames, glue_names}
use Rattle.name_register_input.specs.Input.{request}
use Rattle.name_registering.specs.Register.{register_answer, glues_after, scaffold_after, bases_after}
use Rattle.sheet_records.specs.Tables.{columns}
use Rattle.sheet_names.specs.Appended.{flag_of, ends}

-- fields 3 to 7 of each strand's record of 7 (north, east, south, west, bottom), strand 0 having none, then the scaffold's fields row by row
unfoldable pub sheet_glues : (rows cols strands : ℕ) (strand_sheet scaffold_sheet : List ℕ) → List (List ℕ)
sheet_glues rows cols strands strand_sheet scaffold_sheet = columns (strands - 1) 7 2 5 strand_sheet ++ columns rows cols 0 cols scaffold_sheet

-- how many bytes entries take where a text has so much room
abbrev pub bytes_laid : (room : ℕ) → List (List ℕ) → ℕ
bytes_laid room entries = min room (length (flatten entries))

-- entries as names: a blank one is no glue
unfoldable pub laid_names : (room : ℕ) → List (List ℕ) → GlueNames
laid_names room entries = glue_names (take room (flatten entries)) (0 ∷ ends room 0 entries) (map flag_of entries)

-- names were registered: the answer, and the three tables, from what they were
pub record Registers (rows cols strands : ℕ) (n : GlueNames) (result : Result ℕ Refusal) (glues scaffold bases glues' scaffold' bases' : List ℕ) : Type 0 where
  pub answered : result ≡ register_answer (request rows cols strands n (length glues) (length scaffold) (length bases))
  pub glues_written : glues' ≡ glues_after (request rows cols strands n (length glues) (length scaffold) (length bases)) glues
  pub scaffold_written : scaffold' ≡ scaffold_after (request rows cols strands n (length glues) (length scaffold) (length bases)) scaffold
  pub bases_written : bases' ≡ bases_after (request rows cols strands n (length glues) (length scaffold) (length bases)) bases
