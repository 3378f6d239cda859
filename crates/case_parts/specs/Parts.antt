-- What the contracts cite of fields that are read into parts of a table, and of how much was read. Assumes nothing.
use Rattle.std.specs.Option.{unwrap_or}
use Rattle.std.specs.Prelude.{ℕ, ◌-◌, min, Bool, List, ◌++◌, length, take, drop, Option}
use Rattle.case_fields.specs.Values.{field_count, field_front}

-- a length that could not be read: more than any table here has places
abbrev pub unread : ℕ
unread = 1048576

-- how long a case says that a lent table is, the right length where it does not say, and `unread` where that cannot be read
abbrev pub length_for : Option ℕ → ℕ
length_for length = unwrap_or length unread

-- the places that a part of a table goes from and to: as asked, as far as the table goes
abbrev pub part_end : {A : Type 0} → (to : ℕ) → List A → ℕ
part_end to table = min to (length table)

abbrev pub part_start : {A : Type 0} → (from to : ℕ) → List A → ℕ
part_start from to table = min from (part_end to table)

-- what stands between two places
abbrev pub between : {A : Type 0} → (from to : ℕ) → List A → List A
between from to table = take (part_end to table - part_start from to table) (drop (part_start from to table) table)

-- how many items a field has that is read into what stands between two places
abbrev pub count_between : {A : Type 0} → (List ℕ → Bool) → (List ℕ → List (List ℕ)) → (key line : List ℕ) → (from to : ℕ) → List A → Option ℕ
count_between ok cut key line from to table = field_count ok cut key line (length (between from to table))

-- the table afterwards: what stands between the places is written from its front, all else is as it was
abbrev pub front_between : {A : Type 0} → (List ℕ → Bool) → (List ℕ → A) → (List ℕ → List (List ℕ)) → (key line : List ℕ) → (from to : ℕ) → List A → List A
front_between ok value cut key line from to table =
    take (part_start from to table) table ++ (field_front ok value cut key line (between from to table) ++ drop (part_end to table) table)
