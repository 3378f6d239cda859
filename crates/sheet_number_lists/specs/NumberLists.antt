-- Lists of strand numbers as a sheet's field has them. Assumes nothing.
use Rattle.std.specs.Prelude.{ℕ, ◌^◌, Bool, true, cond, not, ◌&&◌, ◌||◌, List, [], ◌∷◌, map, eqb, ltb, leb, length, get_or}
use Rattle.text_digits.specs.Digits.{all_digits, worth}

-- a byte in front of the first of some words
unfoldable pub joined : ℕ → List (List ℕ) → List (List ℕ)
joined b [] = (b ∷ []) ∷ []
joined b (w ∷ ws) = (b ∷ w) ∷ ws

-- what stands between single spaces, nothing too where two spaces meet or one stands at an end
unfoldable pub words : List ℕ → List (List ℕ)
words [] = [] ∷ []
words (b ∷ t) = cond (eqb b 32) ([] ∷ words t) (joined b (words t))

-- a u32 in plain decimal: one digit or more, no 0 in front of another digit, below 2^32
unfoldable pub is_plain_number : List ℕ → Bool
is_plain_number w =
    leb 1 (length w) && (all_digits 10 w && ((eqb (length w) 1 || not (eqb (get_or w 0 0) 48)) && ltb (worth 10 0 w) (2 ^ 32)))

unfoldable pub are_numbers : List (List ℕ) → Bool
are_numbers [] = true
are_numbers (w ∷ ws) = is_plain_number w && are_numbers ws

-- what a word is worth, 0 where it is no number
unfoldable pub value_of : List ℕ → ℕ
value_of w = cond (is_plain_number w) (worth 10 0 w) 0

-- the content of a field is a list: no bytes at all, or numbers with single spaces between them
unfoldable pub is_list : List ℕ → Bool
is_list [] = true
is_list (b ∷ t) = are_numbers (words (b ∷ t))

-- the numbers in it
unfoldable pub list_in : List ℕ → List ℕ
list_in [] = []
list_in (b ∷ t) = map value_of (words (b ∷ t))
