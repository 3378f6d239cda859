-- What the contracts cite of a field's value by its key. Assumes nothing.
use Rattle.std.specs.Prelude.{ℕ, ◌^◌, Bool, cond, List, Option, Some, None}
use Rattle.text_digits.specs.Digits.{number_of}
use Rattle.case_text.specs.Fields.{words, any_field, first_field}
use Rattle.case_lists.specs.Lists.{values, counted, front}

-- how many items the field with that key has, as its value is cut; unreadable where the line has no such field
unfoldable pub field_count : (List ℕ → Bool) → (List ℕ → List (List ℕ)) → (key line : List ℕ) → (room : ℕ) → Option ℕ
field_count ok cut key line room = cond (any_field key (words line)) (counted ok (cut (first_field key (words line))) room) None

-- the slice with the items' values at its front; as it was where the line has no such field
unfoldable pub field_front : {A : Type 0} → (List ℕ → Bool) → (List ℕ → A) → (List ℕ → List (List ℕ)) → (key line : List ℕ) → List A → List A
field_front ok value cut key line old = cond (any_field key (words line)) (front (values ok value (cut (first_field key (words line)))) old) old

-- the number of the field with that key, or another where the line has no such field
unfoldable pub number_or : (key line : List ℕ) → (otherwise : ℕ) → Option ℕ
number_or key line otherwise = cond (any_field key (words line)) (number_of (2 ^ 64) (first_field key (words line))) (Some otherwise)
