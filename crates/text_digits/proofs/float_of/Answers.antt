-- `text_digits::float_of` meets its contract: its tests are those of a NaN's pattern. Assumes nothing.
use Prim.Native.Nat.{ℕ, ◌/◌, ◌%◌}
use mathlib.Core.Bool.{true, false}
use mathlib.Core.Path.{◌≡◌, refl, sym, ◌∙◌}
use borrow.Author.Tests.{eq-eqb, ne_eqb}
use lib.Ieee.{Float, nan, inf, fin, binary64, of_bits, nan_bits, is_nan}
use lib.Ieee.Bits.{nan_bits_is}
use native.Mathlib.Omega.{arith}
use Rattle.text_digits.proofs.float_of.Goals as goal
use Rattle.text_digits.proofs.float_of.Goals.{else-exponent-eq2047-via-then-exponent-eq2047+else-below-ne0, else-exponent-eq2047-via-else-exponent-eq2047}

nan_is : (x : Float) → is_nan x ≡ true → nan ≡ x
unfolding is_nan
nan_is nan e = refl
nan_is (inf s) e = let z : ◌≡◌ {A = ℕ} 0 1 = cc in absurd (omega arith)
nan_is (fin s m n) e = let z : ◌≡◌ {A = ℕ} 0 1 = cc in absurd (omega arith)

module _ (bits : ℕ) where
  all_ones : bits % 9223372036854775808 / 4503599627370496 ≡ 2047 → (bits % 4503599627370496 ≡ 0 → ⊥) → nan_bits binary64 bits ≡ true
  unfolding nan_bits
  all_ones e n = simp (eq-eqb (bits % 9223372036854775808 / 4503599627370496) 2047 e, ne_eqb (bits % 4503599627370496) 0 n)

  no_digit : bits % 9223372036854775808 / 4503599627370496 ≡ 2047 → bits % 4503599627370496 ≡ 0 → nan_bits binary64 bits ≡ false
  unfolding nan_bits
  no_digit e n = simp (eq-eqb (bits % 9223372036854775808 / 4503599627370496) 2047 e, eq-eqb (bits % 4503599627370496) 0 n)

  no_ones : (bits % 9223372036854775808 / 4503599627370496 ≡ 2047 → ⊥) → nan_bits binary64 bits ≡ false
  unfolding nan_bits
  no_ones n = simp (ne_eqb (bits % 9223372036854775808 / 4503599627370496) 2047 n)

a_nan : of_bits binary64 9221120237041090560 ≡ nan
unfolding of_bits
a_nan = refl

pub returns-then-below-ne0 : goal.returns-then-below-ne0
returns-then-below-ne0 c = let bits = c.args.bits in a_nan ∙ nan_is (of_bits binary64 bits) (sym (nan_bits_is binary64 bits) ∙ all_ones bits c.if-exponent-eq2047.true c.if-below-ne0.true)

pub float_from_bits-result : goal.float_from_bits-result
float_from_bits-result c = let bits = c.args.bits in
    let plain : nan_bits binary64 bits ≡ false = elim c.else-exponent-eq2047.branch [
      | else-exponent-eq2047-via-then-exponent-eq2047+else-below-ne0 w ↦ no_digit bits w.if-exponent-eq2047.true w.if-below-ne0.false
      | else-exponent-eq2047-via-else-exponent-eq2047 w ↦ no_ones bits w.if-exponent-eq2047.false
    ] in
    rw plain tt
