-- Digits are none of the bytes that a sheet gives a meaning: no space, comma, quote, CR or LF. Assumes nothing.
use Prim.Native.Nat.{ℕ, ◌-◌, ◌≤◌, ◌<◌}
use mathlib.Core.Path.{◌≡◌, refl, sym}
use mathlib.Core.Bool.{Bool, true, false, cond, ◌&&◌, true≢false}
use native.Mathlib.Omega.{arith}
use lib.Dec.{ltb, leb}
use borrow.Author.Tests.{ltb-true, leb-true, lt-ltb, le-leb}
use Rattle.units.proofs.Tests.{both}
use Rattle.text_digits.specs.Digits.{digit}

-- a byte from one on and below another
pub record Between (low high b : ℕ) : Type 0 where
  pub least : low ≤ b
  pub most : b < high

between : (low high b : ℕ) → leb low b && ltb b high ≡ true → Between low high b
between low high b e =
    let parts = both (leb low b) (ltb b high) e in
    record { least = leb-true low b parts.0; most = ltb-true b high parts.1 }

-- a decimal digit is a byte from `0` to `9`
pub decimal_digit : (b : ℕ) → ltb (digit b) 10 ≡ true → Between 48 58 b
unfolding digit
decimal_digit b e = go (leb 48 b && ltb b 58) refl (leb 97 b && ltb b 103) refl e
  where
    go : (s : Bool) → leb 48 b && ltb b 58 ≡ s → (t : Bool) → leb 97 b && ltb b 103 ≡ t → ltb (cond s (b - 48) (cond t (b - 87) 16)) 10 ≡ true → Between 48 58 b
    go true inside t h f = between 48 58 b inside
    go false out true h f = let letter = between 97 103 b h in let small = ltb-true (b - 87) 10 f in absurd (omega arith)
    go false out false h f = absurd (true≢false (sym f))

-- what a digit is worth
pub digit_worth : (b : ℕ) → Between 48 58 b → digit b ≡ b - 48
unfolding digit
digit_worth b h = rw (lt-ltb b 58 h.most, le-leb 48 b h.least)
