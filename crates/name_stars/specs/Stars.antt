-- The base of a name and its trailing stars. Assumes nothing.
use Rattle.std.specs.Prelude.{ℕ, zero, suc, ◌-◌, ◌%◌, Bool, cond, List, eqb, length, get_or, take}

-- how many of the first n bytes stand before the stars that end them; 42 is the star
unfoldable pub before_stars : List ℕ → ℕ → ℕ
before_stars name zero = zero
before_stars name (suc n) = cond (eqb (get_or name n 0) 42) (before_stars name n) (suc n)

abbrev pub base_length : List ℕ → ℕ
base_length name = before_stars name (length name)

-- the name without its trailing stars
abbrev pub base_of : List ℕ → List ℕ
base_of name = take (base_length name) name

abbrev pub star_count : List ℕ → ℕ
star_count name = length name - base_length name

-- an even number of stars means the base, an odd number its inverse
abbrev pub is_from : List ℕ → Bool
is_from name = eqb (star_count name % 2) 0
