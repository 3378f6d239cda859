-- The definitions at small sheets, computed. Assumes nothing.
use Prim.Native.Nat.{ℕ}
use mathlib.Core.List.{List, [], ◌∷◌, flatten}
use mathlib.Core.Path.{◌≡◌, refl}
use Rattle.name_glues.specs.Names.{glue_names}
use Rattle.sheet_fields.specs.Fields.{is_plain, plain_length, quoted_length, ending_of, field_of, bare_field, quoted_field, is_quoted, field, unquoted, raw, content, after}
use Rattle.sheet_fields.specs.Runs.{contents, past}
use Rattle.sheet_records.specs.Tables.{columns}
use Rattle.sheet_names.specs.Appended.{flag_of, ends}
use Rattle.sheet_glues.specs.SheetGlues.{sheet_glues, laid_names}

-- `s,0,n,e,,w,bb` and a line ending; `p,` and a line ending
strand : List ℕ
strand = 115 ∷ 44 ∷ 48 ∷ 44 ∷ 110 ∷ 44 ∷ 101 ∷ 44 ∷ 44 ∷ 119 ∷ 44 ∷ 98 ∷ 98 ∷ 10 ∷ []

grid : List ℕ
grid = 112 ∷ 44 ∷ 10 ∷ []

-- `n`, `e`, nothing, `w`, `bb`; then `p` and nothing
read : sheet_glues 1 2 2 strand grid ≡ (110 ∷ []) ∷ (101 ∷ []) ∷ [] ∷ (119 ∷ []) ∷ (98 ∷ 98 ∷ []) ∷ (112 ∷ []) ∷ [] ∷ []
unfolding strand grid is_plain plain_length quoted_length ending_of field_of bare_field quoted_field is_quoted field unquoted raw content after contents past columns sheet_glues
read = refl

-- strand 0 has no record
scaffold_alone : sheet_glues 1 2 1 [] grid ≡ (112 ∷ []) ∷ [] ∷ []
unfolding grid is_plain plain_length quoted_length ending_of field_of bare_field quoted_field is_quoted field unquoted raw content after contents past columns sheet_glues
scaffold_alone = refl

-- with room for all, and with room for two bytes
laid : laid_names 9 ((110 ∷ []) ∷ [] ∷ (98 ∷ 98 ∷ []) ∷ []) ≡ glue_names (110 ∷ 98 ∷ 98 ∷ []) (0 ∷ 1 ∷ 1 ∷ 3 ∷ []) (1 ∷ 0 ∷ 1 ∷ [])
unfolding flatten flag_of ends laid_names
laid = refl

cut_off : laid_names 2 ((110 ∷ []) ∷ [] ∷ (98 ∷ 98 ∷ []) ∷ []) ≡ glue_names (110 ∷ 98 ∷ []) (0 ∷ 1 ∷ 1 ∷ 2 ∷ []) (1 ∷ 0 ∷ 1 ∷ [])
unfolding flatten flag_of ends laid_names
cut_off = refl
