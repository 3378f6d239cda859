-- The nearest value of a format is half a unit in the last place away at most: `HalfUnit` of specs, proved. Assumes nothing.
use mathlib.Core.Path.{◌≡◌, refl, sym, ap, ◌∙◌, subst}
use mathlib.Core.Logic.{inl, inr}
use mathlib.Core.Bool.{Bool, true, false, not}
use Prim.Native.Nat.{ℕ, suc, ◌+◌, ◌-◌, ◌*◌, ◌/◌, ◌%◌, ◌^◌, ◌≤◌, ◌<◌, compare, Ordering}
use native.Mathlib.Nat.{mod-lt, div-add-mod', mul-pos, mul-le-mul_right, le_of_mul-le-mul_right, lt_of_mul-lt-mul_right, lt_of_lt_of_le, div-lt_iff_lt-mul, eq-or-lt_of_le, two-pow-succ}
use native.Mathlib.Omega.{arith}
use lib.Dec.{T, is_le, compare_is_eq, eqb, leb→le, nleb→lt, eqb→eq, eqb_refl}
use lib.Arith.{lt_of_le-ne}
use lib.Pow.{pow_pos, pow_mono, pow-add}
use lib.Ieee.{Float, nan, inf, fin, Format, prec, emax, low, up, down, size, nearest, round, add, sub, mul, div}
use lib.Ieee.Digits.{size-le}
use lib.Ieee.Fits.{round_is, two}
use lib.Ieee.Exact.{HasValue, units_val, round_exact}
use lib.Ieee.Nearest.{closest}
use Rattle.floats.specs.Fractions.{Fraction, signed, nothing, sum, difference, product, quotient, exact, Within, Close}
use Rattle.floats.specs.Rounding.{OffByHalf, HalfUnit}
use Rattle.floats.proofs.Distances.{within_self, within_trans, within_sum, within_same, close_same}
use Rattle.floats.proofs.Sum.{Rounded}
use Rattle.floats.proofs.Operations.{sum_per, quotient_per, add_rounded, sub_rounded, mul_rounded, div_rounded}

-- ---- what `compare` says
abbrev Compared : Ordering → ℕ → ℕ → Type 0
Compared Ordering.lt a b = a < b
Compared Ordering.eq a b = a ≡ b
Compared Ordering.gt a b = b < a

compared : (a b : ℕ) → Compared (compare a b) a b
compared a b = go (compare a b) (leb→le a b) (nleb→lt a b) (eqb→eq a b) (λ (e : a ≡ b). subst (λ (x : ℕ). T (eqb a x)) e (eqb_refl a))
  where
    go : (o : Ordering) → (T (is_le o) → a ≤ b) → (T (not (is_le o)) → b < a) → (T (compare_is_eq o) → a ≡ b) → (a ≡ b → T (compare_is_eq o)) → Compared o a b
    go Ordering.lt h k e n = lt_of_le-ne (h tt) n
    go Ordering.eq h k e n = e tt
    go Ordering.gt h k e n = k tt

-- ---- w, the whole number nearest to n / u, is half of one away at most
pub record Halfway (n u w : ℕ) : Type 0 where
  pub above : 2 * (w * u) ≤ 2 * n + u
  pub below : 2 * n ≤ 2 * (w * u) + u

halfway : (n u q r : ℕ) (o : Ordering) → q * u + r ≡ n → r < u → Compared o (r * 2) u → Halfway n u (nearest q o)
halfway n u q r Ordering.lt e l h = record { above = omega arith; below = omega arith }
halfway n u q r Ordering.eq e l h =
    let parity : q % 2 ≤ 1 = omega arith in
    let scaled = mul-le-mul_right u parity in
    record { above = omega arith; below = omega arith }
halfway n u q r Ordering.gt e l h = record { above = omega arith; below = omega arith }

closest_halfway : (n u : ℕ) → 0 < u → Halfway n u (closest n u)
closest_halfway n u U = halfway n u (n / u) (n % u) (compare (n % u * 2) u) (div-add-mod' n u) (mod-lt n U) (compared (n % u * 2) u)

-- ---- a / c rounded, counted in the format's smallest values 1 / l: its last place is e of them at most
pub record Counted (s : Bool) (a c l e : ℕ) (x : Float) : Type 0 where
  pub count : ℕ
  pub value : HasValue x s count l
  pub above : 2 * (count * c) ≤ 2 * (a * l) + e * c
  pub below : 2 * (a * l) ≤ 2 * (count * c) + e * c

in_places : (n c k e w : ℕ) → k ≤ e → Halfway n (c * k) w → (2 * (w * k * c) ≤ 2 * n + e * c) × (2 * n ≤ 2 * (w * k * c) + e * c)
in_places n c k e w K h =
    let wider = mul-le-mul_right c K in
    (omega arith, omega arith)

no_overflow : (b n c e p o : ℕ) → 2 * (b * c) ≤ 2 * n + e * c → n < p * c → e ≤ p → 2 * p ≤ o → b < o
no_overflow b n c e p o h N E O =
    let wider = mul-le-mul_right c E in
    let scaled : b * c < 2 * p * c = omega arith in
    lt_of_lt_of_le (lt_of_mul-lt-mul_right c scaled) O

few : (z p d : ℕ) → z ≤ p + d → z - p ≤ d
few z p d h = omega arith

room : (x y e : ℕ) → x ≤ y + e → suc x ≤ y + suc e
room x y e h = omega arith

counted : (f : Format) (s : Bool) (a c d : ℕ) → 0 < c → a * 2 ^ low f < 2 ^ (prec f + d) * c → prec f + d ≤ low f + emax f
    → Counted s a c (2 ^ low f) (2 ^ d) (round f s a c)
counted f s a c d C small fine =
    let n = a * 2 ^ low f in
    let k = size (n / c) - prec f in
    let w = closest n (c * 2 ^ k) in
    let digits : k ≤ d = few (size (n / c)) (prec f) d (size-le (n / c) (prec f + d) ((div-lt_iff_lt-mul C).1 small)) in
    let both = in_places n c (2 ^ k) (2 ^ d) w (pow_mono digits) (closest_halfway n (c * 2 ^ k) (mul-pos C (pow_pos k))) in
    let top : 2 * 2 ^ (prec f + d) ≤ 2 ^ (low f + suc (emax f)) = omega (arith, two-pow-succ (prec f + d), pow_mono (room (prec f + d) (low f) (emax f) fine)) in
    let under : w * 2 ^ k < 2 ^ (low f + suc (emax f)) =
    no_overflow (w * 2 ^ k) n c (2 ^ d) (2 ^ (prec f + d)) (2 ^ (low f + suc (emax f))) both.0 small (pow_mono (omega arith)) top in
    record {
      count = w * 2 ^ k;
      value = subst (λ (x : Float). HasValue x s (w * 2 ^ k) (2 ^ low f)) (sym (round_is f s a c)) (units_val f s w k under);
      above = both.0;
      below = both.1;
    }

-- ---- the same as a distance: half of the last place is v / u
same_sign : (s : Bool) (a c b d v u : ℕ) → a * d * u ≤ b * c * u + v * (c * d) → b * c * u ≤ a * d * u + v * (c * d) → Within v u (signed s a c) (signed s b d)
same_sign false a c b d v u h g = record { above = omega arith; below = omega arith }
same_sign true a c b d v u h g = record { above = omega arith; below = omega arith }

value_close : {v u : ℕ} {b : Fraction} (s : Bool) (a c : ℕ) (x : Float) → 0 < c → HasValue x s a c → Within v u (signed s a c) b → Close v u x b
value_close s a c nan C h w = absurd h
value_close s a c (inf t) C h w = absurd h
value_close {v} {u} s a c (fin t m g) C h w =
    let cross = ap (λ n. n * u) h.1 in
    record { finite = refl; near = rw h.0 (within_trans v C (omega arith) (same_sign s (m * up g) (down g) a c 0 u (omega arith) (omega arith)) w) }

counted_close : {s : Bool} {a c l e v u : ℕ} (x : Float) → 0 < l → e * u ≡ v * (l + l) → Counted s a c l e x → Close v u x (signed s a c)
counted_close {s} {a} {c} {l} {e} {v} {u} x L place k =
    let b = k.count in
    let half = ap (λ n. n * c) place in
    value_close s b l x L k.value (same_sign s b l a c v u (omega (arith, mul-le-mul_right u k.above)) (omega (arith, mul-le-mul_right u k.below)))

-- ---- a size of at most 2 ^ (prec + 1) halves, in places of the format
size_of : (s : Bool) (a c n u : ℕ) → Within n u (signed s a c) nothing → a * u ≤ n * c
size_of false a c n u h = omega arith
size_of true a c n u h = omega arith

in_smallest : (a c u v p l e : ℕ) → 0 < u → e * u ≡ v * (l + l) → a * u ≤ v * (p + p) * c → a * l ≤ p * e * c
in_smallest a c u v p l e U E h =
    let scaled : a * l * u ≤ p * e * c * u = omega (arith, mul-le-mul_right l h, ap (λ n. n * (p * c)) E) in
    le_of_mul-le-mul_right scaled U

back : (x i : ℕ) → i ≤ x → x - i + i ≡ x
back x i h = omega arith

under : (p m l i e : ℕ) → i ≤ m + suc l → m + suc p ≤ e + i → p + (m + suc l - i) ≤ l + e
under p m l i e h g = omega arith

doubled : (m n : ℕ) → 2 ^ (m + suc n) ≡ 2 ^ m * (2 ^ n + 2 ^ n)
doubled m n = pow-add 2 m (suc n) ∙ ap (λ x. 2 ^ m * x) (two-pow-succ n)

-- the nearest value to a / c, for any sign
round_off : (f : Format) (s : Bool) (a c : ℕ) → 0 < c → OffByHalf f (signed s a c) (round f s a c)
round_off f s a c C m i fine high small =
    let d = m + suc (low f) - i in
    let l = 2 ^ low f in
    let place : 2 ^ d * 2 ^ i ≡ 2 ^ m * (l + l) = sym (pow-add 2 d i) ∙ ap (λ x. 2 ^ x) (back (m + suc (low f)) i fine) ∙ doubled m (low f) in
    let units : a * l ≤ 2 ^ (prec f + d) * c =
    rw (pow-add 2 (prec f) d)
    (in_smallest a c (2 ^ i) (2 ^ m) (2 ^ prec f) l (2 ^ d) (pow_pos i) place (rw (← doubled m (prec f)) (size_of s a c (2 ^ (m + suc (prec f))) (2 ^ i) small))) in
    let top : prec f + d ≤ low f + emax f = under (prec f) m (low f) i (emax f) fine high in
    let twice = pow_mono (room (prec f + d) (low f) (emax f) top) in
    elim (eq-or-lt_of_le units) [
      | inl e ↦
          value_close s a c (round f s a c) C
          (round_exact f s a c 1 (prec f + d) C (omega (arith, pow_mono (two f))) (omega (arith, twice, pow_pos (prec f + d), two-pow-succ (prec f + d))) (omega arith))
          (within_self (signed s a c))
      | inr h ↦ counted_close (round f s a c) (pow_pos (low f)) place (counted f s a c d C h top)
    ]

-- and any fraction that is rounded once
rounded_off : (f : Format) (a : Fraction) (x : Float) → 0 < a.per → Rounded f a x → OffByHalf f a x
rounded_off f a x A r m i fine high small =
    let b = signed r.sign r.size a.per in
    let same = ap (λ n. n * a.per) r.balance in
    let size : Within (2 ^ (m + suc (prec f))) (2 ^ i) b nothing = within_trans (2 ^ (m + suc (prec f))) A (omega arith) (within_same (2 ^ i) b a (omega arith)) small in
    close_same {a = b} A (omega arith) (rw r.is (round_off f r.sign r.size a.per A m i fine high size))

-- ---- the law
pub half_unit : (f : Format) → HalfUnit f
half_unit f =
    record {
      rounded = round_off f;
      added = λ x y X Y. rounded_off f (sum (exact x) (exact y)) (add f x y) (sum_per x y) (add_rounded f x y X Y);
      subtracted = λ x y X Y. rounded_off f (difference (exact x) (exact y)) (sub f x y) (sum_per x y) (sub_rounded f x y X Y);
      multiplied = λ x y X Y. rounded_off f (product (exact x) (exact y)) (mul f x y) (sum_per x y) (mul_rounded f x y X Y);
      divided = λ x y X Y N. rounded_off f (quotient (exact x) (exact y)) (div f x y) (quotient_per x y N) (div_rounded f x y X Y N);
    }

-- ---- the errors of two summands and half a unit: what the exact sum may be off where the summands are
pub sum_close : (f : Format) (m i : ℕ) {j k n : ℕ} {x y : Float} {a b : Fraction} → i ≤ m + suc (low f) → m + suc (prec f) ≤ emax f + i → 0 < a.per → 0 < b.per
    → Close j (2 ^ i) x a → Close k (2 ^ i) y b → Within n (2 ^ i) (sum a b) nothing → j + k + n ≤ 2 ^ (m + suc (prec f))
    → Close (2 ^ m + (j + k)) (2 ^ i) (add f x y) (sum a b)
sum_close f m i {j} {k} {n} {x} {y} {a} {b} fine high A B X Y small room =
    let off : Within (j + k) (2 ^ i) (sum (exact x) (exact y)) (sum a b) = within_sum X.near Y.near in
    let sized : Within (2 ^ (m + suc (prec f))) (2 ^ i) (sum (exact x) (exact y)) nothing = within_trans (2 ^ (m + suc (prec f))) (mul-pos A B) room off small in
    let s = (half_unit f).added x y X.finite Y.finite m i fine high sized in
    record { finite = s.finite; near = within_trans (2 ^ m + (j + k)) (sum_per x y) (omega arith) s.near off }
