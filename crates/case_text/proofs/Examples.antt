-- The definitions at a small line, computed: what docs/CASES.md says of names and fields. Assumes nothing.
use Prim.Native.Nat.{ℕ}
use mathlib.Core.Bool.{true, false}
use mathlib.Core.List.{List, [], ◌∷◌}
use mathlib.Core.Path.{◌≡◌, refl}
use Rattle.text_search.specs.Search.{index_after, index_of}
use Rattle.case_text.specs.Places.{longer, parts}
use Rattle.case_text.specs.Fields.{call_name, rest, words, has_key, value_in, any_field, first_field}

-- `e k=1 kk k=2 j=`
line : List ℕ
line = 101 ∷ 32 ∷ 107 ∷ 61 ∷ 49 ∷ 32 ∷ 107 ∷ 107 ∷ 32 ∷ 107 ∷ 61 ∷ 50 ∷ 32 ∷ 106 ∷ 61 ∷ []

-- the name; of two fields with the key `k` the first; the empty value of `j`; `kk` is no field
its_name : call_name line ≡ 101 ∷ []
unfolding line index_after index_of
its_name = refl

first_counts : first_field (107 ∷ []) (words line) ≡ 49 ∷ []
unfolding line index_after index_of longer parts rest words has_key value_in first_field
first_counts = refl

empty_value : any_field (106 ∷ []) (words line) ≡ true
unfolding line index_after index_of longer parts rest words has_key any_field
empty_value = refl

no_field : any_field (107 ∷ 107 ∷ []) (words line) ≡ false
unfolding line index_after index_of longer parts rest words has_key any_field
no_field = refl
