-- What the contracts cite of text in a value: the signs that it is made of, and the byte of each. Assumes nothing.
use Rattle.std.specs.Prelude.{ℕ, ◌-◌, ◌≤◌, ◌<◌, Bool, false, cond, not, ◌&&◌, List, [], ◌∷◌, ◌≡◌, eqb, length, take, drop, Option, Some, None}
use Rattle.text_digits.specs.Digits.{all_digits, worth}
use Rattle.case_text.specs.Plain.{is_plain}

-- the signs that a text is made of: `%` with the two bytes after it, as far as there are two, and any other byte by itself
unfoldable pub signs : List ℕ → List (List ℕ)
signs [] = []
signs (x ∷ []) = (x ∷ []) ∷ []
signs (x ∷ y ∷ []) = cond (eqb x 37) ((x ∷ y ∷ []) ∷ []) ((x ∷ []) ∷ signs (y ∷ []))
signs (x ∷ y ∷ z ∷ more) = cond (eqb x 37) ((x ∷ y ∷ z ∷ []) ∷ signs more) ((x ∷ []) ∷ signs (y ∷ z ∷ more))

-- a sign that stands for a byte: a plain byte, or `%` and two hexadecimal digits for a byte that is not plain
unfoldable pub is_sign : List ℕ → Bool
is_sign [] = false
is_sign (x ∷ []) = is_plain x
is_sign (x ∷ y ∷ []) = false
is_sign (x ∷ y ∷ z ∷ []) = all_digits 16 (y ∷ z ∷ []) && not (is_plain (worth 16 0 (y ∷ z ∷ [])))
is_sign (x ∷ y ∷ z ∷ a ∷ more) = false

-- what a byte by itself is read as
unfoldable pub plain_of : ℕ → Option ℕ
plain_of b = cond (is_plain b) (Some b) None

-- what a byte by its digits is read as
unfoldable pub hidden_of : Option ℕ → Option ℕ
hidden_of (Some b) = cond (is_plain b) None (Some b)
hidden_of None = None

-- the byte that a sign stands for
unfoldable pub byte_of : List ℕ → ℕ
byte_of [] = 0
byte_of (x ∷ []) = x
byte_of (x ∷ y ∷ more) = worth 16 0 (y ∷ more)

-- what a sign is read as
unfoldable pub sign_of : List ℕ → Option ℕ
sign_of part = cond (is_sign part) (Some (byte_of part)) None

-- the sign at a place of a text ends at r: the text's signs from that place on are it and those from r on
pub record SignEnds (text : List ℕ) (at r : ℕ) : Type 0 where
  pub onward : at < r
  pub within : r ≤ length text
  pub split : signs (drop at text) ≡ take (r - at) (drop at text) ∷ signs (drop r text)
