-- A text put into a slice, and numbers and floats as text. Assumes nothing.
use Rattle.std.specs.Prelude.{ℕ, zero, suc, ◌+◌, ◌-◌, ◌/◌, ◌%◌, min, cond, List, [], ◌∷◌, ◌++◌, ◌≡◌, ltb, Float, ℤ, pos, negsuc, length}
use Rattle.std.specs.Float.{binary64}
use Rattle.std.specs.Float.Ieee.{is_nan, to_bits}
use Rattle.std.proofs.Math.Seq.{paste}
use Rattle.io.specs.Digits.{last_digits}

-- the slice with a text at a place, as far as it has room there
unfoldable pub written : List ℕ → ℕ → List ℕ → List ℕ
written out at text = paste out at text (min (length text) (length out - at))

-- the place after the text, the slice's end where there is no room for all of it
abbrev pub place_after : List ℕ → ℕ → List ℕ → ℕ
place_after out at text = min (length out) (at + length text)

-- a text was put into a slice at a place: the next place, and the slice afterwards
pub record Put (old : List ℕ) (at : ℕ) (text : List ℕ) (next : ℕ) (out : List ℕ) : Type 0 where
  pub place : next ≡ place_after old at text
  pub slice : out ≡ written old at text

-- the decimal digits of n, of which there are at most k + 1, without a zero in front
unfoldable pub decimal : ℕ → ℕ → List ℕ
decimal zero n = (48 + n % 10) ∷ []
decimal (suc k) n = cond (ltb n 10) ((48 + n % 10) ∷ []) (decimal k (n / 10) ++ ((48 + n % 10) ∷ []))

-- a number below 2^64 in decimal
unfoldable pub number_text : ℕ → List ℕ
number_text n = decimal 19 n

-- a whole number in decimal, with `-` in front where it is negative
unfoldable pub signed_text : ℤ → List ℕ
signed_text (pos n) = number_text n
signed_text (negsuc n) = 45 ∷ number_text (suc n)

-- a float by the 16 hexadecimal digits of its bits, or `nan`
unfoldable pub float_text : Float → List ℕ
float_text x = cond (is_nan x) (110 ∷ 97 ∷ 110 ∷ []) (last_digits 16 16 (to_bits binary64 x))
