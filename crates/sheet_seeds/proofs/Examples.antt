-- The definitions at a small sheet, computed. Assumes nothing.
use Prim.Native.Nat.{ℕ}
use mathlib.Core.List.{List, [], ◌∷◌}
use mathlib.Core.Path.{◌≡◌, refl}
use Rattle.text_digits.specs.Digits.{digit, all_digits, worth}
use Rattle.sheet_number_lists.specs.NumberLists.{is_plain_number, value_of}
use Rattle.sheet_fields.specs.Fields.{is_plain, plain_length, ending_of, field_of, bare_field, is_quoted, field, raw, content, after}
use Rattle.sheet_fields.specs.Runs.{contents, past}
use Rattle.sheet_records.specs.Tables.{columns}
use Rattle.sheet_numbers.specs.Counts.{is_count, from_zero}
use Rattle.sheet_seeds.specs.Seeds.{places_of, all_read, fault, first_of, place_fault, seed_names}

-- `1,2,A`, `32,5,` and `3,0,B`: two seeds, one of them without a name, and a seed in no column
sheet : List ℕ
sheet = 49 ∷ 44 ∷ 50 ∷ 44 ∷ 65 ∷ 10 ∷ 51 ∷ 50 ∷ 44 ∷ 53 ∷ 44 ∷ 10 ∷ 51 ∷ 44 ∷ 48 ∷ 44 ∷ 66 ∷ 10 ∷ []

places : places_of 3 sheet ≡ 0 ∷ 1 ∷ 31 ∷ 4 ∷ 2 ∷ 0 ∷ []
unfolding places_of sheet columns contents past is_plain plain_length ending_of field_of bare_field is_quoted field raw content after
    from_zero is_plain_number value_of digit all_digits worth
places = refl

-- the first two records, and all three
sound : place_fault 2 sheet ≡ all_read
unfolding place_fault first_of sheet columns contents past is_plain plain_length ending_of field_of bare_field is_quoted field raw content after
    is_count is_plain_number value_of digit all_digits worth
sound = refl

refused : place_fault 3 sheet ≡ fault 3 2
unfolding place_fault first_of sheet columns contents past is_plain plain_length ending_of field_of bare_field is_quoted field raw content after
    is_count is_plain_number value_of digit all_digits worth
refused = refl

names : seed_names 3 sheet ≡ (65 ∷ []) ∷ [] ∷ (66 ∷ []) ∷ []
unfolding seed_names sheet columns contents past is_plain plain_length ending_of field_of bare_field is_quoted field raw content after
names = refl
