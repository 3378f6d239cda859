-- The reading of small sheets, computed: every rule of docs/requests/Q-1.md once. Assumes nothing.
use Prim.Native.Nat.{ℕ}
use mathlib.Core.Path.{◌≡◌, refl}
use mathlib.Core.List.{List, [], ◌∷◌, map}
use Rattle.text_digits.specs.Digits.{digit, all_digits, worth}
use Rattle.units.specs.declared.refusal.Refusal.TheVariants.{Size, Field}
use Rattle.units.specs.Refusals.{Verdict, passes, refuses, ◌▷◌, if_passes}
use Rattle.sheet_fields.specs.Fields.{is_plain, plain_length, quoted_length, ending_of, field_of, bare_field, quoted_field, is_quoted, field, unquoted, raw, content, after}
use Rattle.sheet_number_lists.specs.NumberLists.{joined, words, is_plain_number, are_numbers, value_of, is_list, list_in}
use Rattle.sheet_fields.specs.Runs.{past, goes_on, record_fault}
use Rattle.sheet_cells.specs.Cells.{is_cell, cells, sheet_fault, sheet_verdict}
use Rattle.sheet.specs.Read.{grid_verdict, sheet_lists}

record Reading : Type 0 where
  verdict : Verdict
  lists : List (List ℕ)

record Case : Type 0 where
  given : Reading
  printed : Reading

-- the verdict on a sheet's text, and its lists where it passes
reading : (rows columns : ℕ) → List ℕ → Reading
reading rows columns text =
    let v = grid_verdict rows columns ▷ sheet_verdict rows columns text in
    record { verdict = v; lists = if_passes v (sheet_lists rows columns text) [] }

examples : List Case
examples =
    record { given = reading 1 1 []; printed = record { verdict = refuses (Field 1 1); lists = [] } }
    ∷ record { given = reading 1 1 (48 ∷ []); printed = record { verdict = passes; lists = ((0 ∷ []) ∷ []) } }
    ∷ record { given = reading 1 1 (10 ∷ []); printed = record { verdict = passes; lists = ([] ∷ []) } }
    ∷ record { given = reading 1 1 (34 ∷ 34 ∷ []); printed = record { verdict = passes; lists = ([] ∷ []) } }
    ∷ record { given = reading 1 1 (34 ∷ 48 ∷ 34 ∷ 13 ∷ 10 ∷ []); printed = record { verdict = passes; lists = ((0 ∷ []) ∷ []) } }
    ∷ record { given = reading 1 1 (48 ∷ 48 ∷ 55 ∷ []); printed = record { verdict = refuses (Field 1 1); lists = [] } }
    ∷ record { given = reading 1 1 (43 ∷ 49 ∷ []); printed = record { verdict = refuses (Field 1 1); lists = [] } }
    ∷ record { given = reading 1 1 (32 ∷ 49 ∷ []); printed = record { verdict = refuses (Field 1 1); lists = [] } }
    ∷ record { given = reading 1 1 (49 ∷ 32 ∷ []); printed = record { verdict = refuses (Field 1 1); lists = [] } }
    ∷ record { given = reading 1 1 (49 ∷ 32 ∷ 32 ∷ 50 ∷ []); printed = record { verdict = refuses (Field 1 1); lists = [] } }
    ∷ record { given = reading 1 1 (52 ∷ 50 ∷ 57 ∷ 52 ∷ 57 ∷ 54 ∷ 55 ∷ 50 ∷ 57 ∷ 53 ∷ []); printed = record { verdict = passes; lists = ((4294967295 ∷ []) ∷ []) } }
    ∷ record { given = reading 1 1 (52 ∷ 50 ∷ 57 ∷ 52 ∷ 57 ∷ 54 ∷ 55 ∷ 50 ∷ 57 ∷ 54 ∷ []); printed = record { verdict = refuses (Field 1 1); lists = [] } }
    ∷ record { given = reading 1 1 (239 ∷ 187 ∷ 191 ∷ 49 ∷ []); printed = record { verdict = refuses (Field 1 1); lists = [] } }
    ∷ record { given = reading 1 1 (49 ∷ 34 ∷ []); printed = record { verdict = refuses (Field 1 1); lists = [] } }
    ∷ record { given = reading 1 1 (34 ∷ 49 ∷ 34 ∷ 50 ∷ []); printed = record { verdict = refuses (Field 1 1); lists = [] } }
    ∷ record { given = reading 1 1 (49 ∷ 13 ∷ []); printed = record { verdict = refuses (Field 1 1); lists = [] } }
    ∷ record { given = reading 1 1 (34 ∷ 49 ∷ []); printed = record { verdict = refuses (Field 1 1); lists = [] } }
    ∷ record { given = reading 1 1 (34 ∷ 49 ∷ 34 ∷ 34 ∷ 50 ∷ 34 ∷ []); printed = record { verdict = refuses (Field 1 1); lists = [] } }
    ∷ record { given = reading 1 1 (34 ∷ 49 ∷ 10 ∷ 50 ∷ 34 ∷ []); printed = record { verdict = refuses (Field 1 1); lists = [] } }
    ∷ record { given = reading 1 1 (49 ∷ 10 ∷ 10 ∷ []); printed = record { verdict = refuses (Field 2 1); lists = [] } }
    ∷ record { given = reading 2 1 (49 ∷ 10 ∷ []); printed = record { verdict = refuses (Field 2 1); lists = [] } }
    ∷ record { given = reading 2 1 (49 ∷ 10 ∷ 10 ∷ []); printed = record { verdict = passes; lists = ((1 ∷ []) ∷ [] ∷ []) } }
    ∷ record { given = reading 2 3 (49 ∷ 44 ∷ 50 ∷ 32 ∷ 48 ∷ 44 ∷ 13 ∷ 10 ∷ 44 ∷ 34 ∷ 51 ∷ 32 ∷ 51 ∷ 34 ∷ 44 ∷ 48 ∷ []); printed = record { verdict = passes; lists = ((1 ∷ []) ∷ (2 ∷ 0 ∷ []) ∷ [] ∷ [] ∷ (3 ∷ 3 ∷ []) ∷ (0 ∷ []) ∷ []) } }
    ∷ record { given = reading 2 3 (49 ∷ 44 ∷ 50 ∷ 13 ∷ 10 ∷ 44 ∷ 51 ∷ 44 ∷ 48 ∷ []); printed = record { verdict = refuses (Field 1 3); lists = [] } }
    ∷ record { given = reading 2 3 (49 ∷ 44 ∷ 50 ∷ 44 ∷ 51 ∷ 44 ∷ 13 ∷ 10 ∷ 44 ∷ 51 ∷ 44 ∷ 48 ∷ []); printed = record { verdict = refuses (Field 1 4); lists = [] } }
    ∷ record { given = reading 2 3 (49 ∷ 44 ∷ 50 ∷ 44 ∷ 51 ∷ 13 ∷ 10 ∷ 44 ∷ 120 ∷ 44 ∷ 48 ∷ []); printed = record { verdict = refuses (Field 2 2); lists = [] } }
    ∷ record { given = reading 2 3 (49 ∷ 44 ∷ 50 ∷ 44 ∷ 51 ∷ 13 ∷ 10 ∷ 44 ∷ 52 ∷ 44 ∷ 48 ∷ 13 ∷ 10 ∷ 53 ∷ []); printed = record { verdict = refuses (Field 3 1); lists = [] } }
    ∷ record { given = reading 0 3 []; printed = record { verdict = refuses Size; lists = [] } }
    ∷ record { given = reading 1 33 []; printed = record { verdict = refuses Size; lists = [] } }
    ∷ []

as_printed : map (λ (c : Case). c.given) examples ≡ map (λ (c : Case). c.printed) examples
unfolding reading examples digit all_digits worth is_plain plain_length quoted_length ending_of field_of bare_field quoted_field is_quoted field unquoted raw content after joined words is_plain_number are_numbers value_of is_list list_in is_cell cells past goes_on record_fault sheet_fault
as_printed = refl
