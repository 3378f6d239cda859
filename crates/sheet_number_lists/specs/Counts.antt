-- What the contracts cite of words and of the count of a list's numbers. Assumes nothing.
use Rattle.std.specs.Prelude.{ℕ, cond, List, Option, Some, None, length}
use Rattle.sheet_number_lists.specs.NumberLists.{is_plain_number, value_of, is_list, list_in}

-- the number that a word is
abbrev pub plain_number : List ℕ → Option ℕ
plain_number w = cond (is_plain_number w) (Some (value_of w)) None

-- how many numbers a content has, where it is a list
abbrev pub list_count : List ℕ → Option ℕ
list_count content = cond (is_list content) (Some (length (list_in content))) None
