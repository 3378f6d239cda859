-- What the contracts cite of a case line: its call's name and its fields. Assumes nothing.
use Rattle.std.specs.Prelude.{ℕ, suc, ◌+◌, ◌-◌, ◌<◌, Bool, true, false, cond, not, ◌&&◌, List, [], ◌∷◌, ◌≡◌, eqb, ltb, length, take, drop, Option, Some, None, IfSome, is_some}
use Rattle.text_search.specs.Search.{index_of}
use Rattle.text_entries.specs.Entries.{same_bytes}
use Rattle.case_text.specs.Places.{place_of, parts}

-- a line is a case where it has bytes and the first is no `#`
abbrev pub is_case : List ℕ → Bool
is_case [] = false
is_case (x ∷ xs) = not (eqb x 35)

-- what stands before the line's first space
abbrev pub call_name : List ℕ → List ℕ
call_name line = take (index_of 32 line) line

-- a list without its first element
unfoldable pub rest : List (List ℕ) → List (List ℕ)
rest [] = []
rest (p ∷ ps) = ps

-- the line's words after the name of its call
unfoldable pub words : List ℕ → List (List ℕ)
unfolding rest
words line = rest (parts 32 line)

-- a word is a field with that key where it has an `=`, and what stands before the first one is the key
unfoldable pub has_key : List ℕ → List ℕ → Bool
has_key key word = ltb (index_of 61 word) (length word) && same_bytes (take (index_of 61 word) word) key

-- what stands after the word's first `=`
unfoldable pub value_in : List ℕ → List ℕ
value_in word = drop (suc (index_of 61 word)) word

-- whether one of the words is a field with that key
unfoldable pub any_field : List ℕ → List (List ℕ) → Bool
any_field key [] = false
any_field key (w ∷ ws) = cond (has_key key w) true (any_field key ws)

-- the value of the first of the words that is a field with that key, or no bytes where there is none
unfoldable pub first_field : List ℕ → List (List ℕ) → List ℕ
first_field key [] = []
first_field key (w ∷ ws) = cond (has_key key w) (value_in w) (first_field key ws)

-- the value in the word after a place, no bytes where there is none
abbrev pub value_after : List ℕ → Option ℕ → List ℕ
value_after line (Some r) = value_in (take (place_of 32 line (r + 1) - (r + 1)) (drop (r + 1) line))
value_after line None = []

-- r is the place of the space before the line's first field with that key
pub record FieldAt (key line : List ℕ) (r : Option ℕ) : Type 0 where
  pub within : IfSome r (λ at. at < length line)
  pub any : any_field key (words line) ≡ is_some r
  pub first : first_field key (words line) ≡ value_after line r
