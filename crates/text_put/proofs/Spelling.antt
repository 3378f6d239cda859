-- Laws of numbers as text: the digits that `io` writes are those of the definitions. Assumes nothing.
use Prim.Native.Nat.{ℕ, zero, suc, ◌+◌, ◌-◌, ◌/◌, ◌%◌, ◌^◌, ◌≤◌, ◌<◌}
use mathlib.Core.List.{List, [], ◌∷◌, ◌++◌}
use mathlib.Core.Bool.{Bool, true, false}
use mathlib.Core.Path.{◌≡◌, refl, ap, subst⁻¹}
use native.Mathlib.Nat.{pow-suc, pow-le-pow_right}
use native.Mathlib.Numerals.{sub-one}
use native.Mathlib.Omega.{arith}
use borrow.Author.Tests.{lt-ltb, le-ltb, ltb-true, leb-true, leb-false}
use lib.Dec.{T, leb, lit<, lit≤}
use lib.Ieee.{Float, binary64, fits, is_nan, to_bits}
use lib.Ieee.Bits.{to_bits-lt}
use lib.IntN.{ℤ, pos, negsuc, nat_abs}
use lib.Signed.{lt_z}
use Rattle.io.specs.Digits.{hex_digit_ascii, last_digits, IsDigitCount}
use Rattle.text_put.specs.Puts.{decimal, number_text, signed_text, float_text}

ten : (n : ℕ) → hex_digit_ascii (n % 10) ≡ 48 + n % 10
ten n = rw (lt-ltb (n % 10) 10 (omega arith))

-- the fewest digits of n / 10 are those of n without the last
fewer : (n j : ℕ) → IsDigitCount 10 1 n (suc (suc j)) → IsDigitCount 10 1 (n / 10) (suc j)
fewer n j w =
    let p = pow-suc 10 (suc j) in
    let q = pow-suc 10 j in
    let under = w.1 in
    let least : 10 ^ suc j ≤ n = rw (ap (λ (m : ℕ). 10 ^ m) (sub-one (suc (suc j)))) at (w.2 (omega arith)) in
    (omega arith, omega arith, λ (h : 1 < suc j). rw (ap (λ (m : ℕ). 10 ^ m) (sub-one (suc j))) (omega arith))

-- the fewest decimal digits of a number are those without a zero in front
pub decimal_is : (f n k : ℕ) → IsDigitCount 10 1 n k → k ≤ suc f → last_digits 10 k n ≡ decimal f n
unfolding decimal
decimal_is f n zero w h = let one = w.0 in absurd (omega arith)
decimal_is zero n (suc zero) w h = ap (λ (x : ℕ). x ∷ []) (ten n)
decimal_is zero n (suc (suc j)) w h = absurd (omega arith)
decimal_is (suc g) n (suc zero) w h = let under : n < 10 = w.1 in rw (lt-ltb n 10 under) (ap (λ (x : ℕ). x ∷ []) (ten n))
decimal_is (suc g) n (suc (suc j)) w h =
    let least : 10 ^ suc j ≤ n = rw (ap (λ (m : ℕ). 10 ^ m) (sub-one (suc (suc j)))) at (w.2 (omega arith)) in
    let some : 1 ≤ suc j = omega arith in
    let ten_up : 10 ^ 1 ≤ 10 ^ suc j = pow-le-pow_right (lit< tt) some in
    let over : 10 ≤ n = omega arith in
    rw (le-ltb n 10 over, ten n) (ap (λ (l : List ℕ). l ++ ((48 + n % 10) ∷ [])) (decimal_is g (n / 10) (suc j) (fewer n j w) (omega arith)))

-- as many digits as hold a number are enough
pub at_most : (b least n k m : ℕ) → 0 < b → IsDigitCount b least n k → least ≤ m → n < b ^ m → k ≤ m
at_most b least n k m some w h room = go (leb k m) refl
  where
    go : (t : Bool) → leb k m ≡ t → k ≤ m
    go true e = leb-true k m e
    go false e =
        let more = leb-false k m e in
        let fits : m ≤ k - 1 = omega arith in
        let high = w.2 (omega arith) in
        let up = pow-le-pow_right some fits in
        absurd (omega arith)

pub number_text_lem : (n k : ℕ) → IsDigitCount 10 1 n k → n < 2 ^ 64 → last_digits 10 k n ≡ number_text n
unfolding number_text
number_text_lem n k w h = decimal_is 19 n k w (at_most 10 1 n k 20 (lit< tt) w (lit≤ tt) (omega arith))

-- ---- signed numbers

pub text_up : (z : ℤ) → lt_z z (pos 0) ≡ false → number_text (nat_abs z) ≡ signed_text z
unfolding signed_text
text_up (pos n) e = refl
text_up (negsuc n) e = let z : ◌≡◌ {A = ℕ} 0 1 = cc in absurd (omega arith)

pub text_down : (z : ℤ) → lt_z z (pos 0) ≡ true → (45 ∷ []) ++ number_text (nat_abs z) ≡ signed_text z
unfolding signed_text
text_down (pos n) e = let h = ltb-true n 0 e in absurd (omega arith)
text_down (negsuc n) e = refl

-- ---- floats

pub float_text_lem : (x : Float) (k : ℕ) → is_nan x ≡ false → fits binary64 x ≡ true → IsDigitCount 16 16 (to_bits binary64 x) k → last_digits 16 k (to_bits binary64 x) ≡ float_text x
unfolding float_text
float_text_lem x k e f w =
    let all : k ≡ 16 = let least = w.0 in omega (arith, at_most 16 16 (to_bits binary64 x) k 16 (lit< tt) w (lit≤ tt) (to_bits-lt binary64 x (subst⁻¹ T f tt))) in
    rw (e, all)

pub nan_text : (x : Float) → is_nan x ≡ true → 110 ∷ 97 ∷ 110 ∷ [] ≡ float_text x
unfolding float_text
nan_text x e = rw e
