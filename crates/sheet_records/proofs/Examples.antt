-- The definitions at small sheets, computed. Assumes nothing.
use Prim.Native.Nat.{ℕ}
use mathlib.Core.List.{List, [], ◌∷◌, map}
use mathlib.Core.Path.{◌≡◌, refl}
use Rattle.sheet_fields.specs.Fields.{is_plain, plain_length, quoted_length, ending_of, field_of, bare_field, quoted_field, is_quoted, field, unquoted, raw, content, after}
use Rattle.sheet_fields.specs.Runs.{contents, past, goes_on, is_sound, record_fault}
use Rattle.sheet_records.specs.Tables.{sound, faulty, table_from, table_check, width_up_to, first_width, columns}

-- `a,1` and `"b,""",` with a line ending each
two_by_two : List ℕ
two_by_two = 97 ∷ 44 ∷ 49 ∷ 10 ∷ 34 ∷ 98 ∷ 44 ∷ 34 ∷ 34 ∷ 34 ∷ 44 ∷ 13 ∷ 10 ∷ []

-- as two columns, as three and as one; with one record too many; no bytes at all
checked : table_check 2 2 two_by_two ∷ table_check 3 2 two_by_two ∷ table_check 1 2 two_by_two ∷ table_check 2 1 two_by_two ∷ table_check 2 2 [] ∷ []
    ≡ sound 2 ∷ faulty 1 3 ∷ faulty 1 2 ∷ faulty 2 1 ∷ sound 0 ∷ []
unfolding two_by_two is_plain plain_length quoted_length ending_of field_of bare_field quoted_field is_quoted field after past goes_on is_sound record_fault table_from
checked = refl

-- `a` and a quote that nothing closes: the first field of the second record
unclosed : table_check 1 9 (97 ∷ 10 ∷ 34 ∷ []) ≡ faulty 2 1
unfolding is_plain plain_length quoted_length ending_of field_of bare_field quoted_field is_quoted field after past goes_on is_sound record_fault table_from
unclosed = refl

widths : map first_width ([] ∷ two_by_two ∷ (10 ∷ []) ∷ (44 ∷ 44 ∷ []) ∷ []) ≡ 0 ∷ 2 ∷ 1 ∷ 3 ∷ []
unfolding two_by_two is_plain plain_length quoted_length ending_of field_of bare_field quoted_field is_quoted field after width_up_to first_width
widths = refl

-- `a` and `b,"`; `1` and nothing
read : columns 2 2 0 1 two_by_two ∷ columns 2 2 1 1 two_by_two ∷ []
    ≡ ((97 ∷ []) ∷ (98 ∷ 44 ∷ 34 ∷ []) ∷ []) ∷ ((49 ∷ []) ∷ [] ∷ []) ∷ []
unfolding two_by_two is_plain plain_length quoted_length ending_of field_of bare_field quoted_field is_quoted field unquoted raw content after contents past columns
read = refl
