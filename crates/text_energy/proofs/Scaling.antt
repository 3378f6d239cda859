-- A float's bits and its hundredths: the digits shifted to the right and rounded. Assumes nothing.
use Prim.Native.Nat.{ℕ, zero, suc, ◌+◌, ◌-◌, ◌*◌, ◌/◌, ◌%◌, ◌^◌, ◌≤◌, ◌<◌}
use mathlib.Core.Path.{◌≡◌, refl, sym, ◌∙◌, ap, subst}
use mathlib.Core.Bool.{Bool, true, false, cond}
use native.Mathlib.Nat.{div-eq_of_lt, mul_comm, mul_assoc, mul_left_comm, add-mul, mul-add, mul-pos, mul-one, pow-zero, lt_of_lt_of_le, mul-le-mul, div-lt_iff_lt-mul, le-div_iff_mul-le, mod-lt}
use native.Mathlib.Omega.{arith}
use borrow.Author.Tests.{lt-ltb, le-ltb, ne_eqb, eqb-true, eqb-false}
use lib.Dec.{ltb, leb, eqb, lit<}
use lib.Pow.{pow_pos, pow_mono, pow-add, shl_lt}
use lib.Ieee.{Float, nan, inf, fin, up, down, binary64, of_fields, of_bits}
use lib.Ieee.Exact.{HasValue, odd_sign}
use lib.Ieee.Fits.{down_pos}
use lib.Ieee.Nearest.{div_same}
use Rattle.std.proofs.Common.{Option, Some, None}
use Rattle.text_energy.specs.Hundredths.{hundredths, is_small, is_negative, nearest_hundredth}
use Rattle.text_energy.specs.declared.Hundredths.{Hundredths}

-- ---- the shift

-- nothing is left of digits that are shifted by more than 60 places
pub shifted_out : (digits s : ℕ) → digits < 2 ^ 53 → 61 ≤ s → 0 ≡ (200 * digits + 2 ^ s) / (2 * 2 ^ s)
shifted_out digits s few far =
    let unit = pow_mono {i = 61} {j = s} far in
    sym (div-eq_of_lt (omega arith))

pub unit_bound : (s : ℕ) → s ≤ 60 → 2 ^ s ≤ 2 ^ 60
unit_bound s h = pow_mono h

-- ---- a float of known value

twice : (m u c a d : ℕ) → m * u * c ≡ a * d → (200 * (m * u) + d) * (2 * c) ≡ (200 * a + c) * (2 * d)
twice m u c a d e =
    let x = simp (mul_assoc, mul_comm, mul_left_comm) at e in
    simp (add-mul, mul-add, mul_assoc, mul_comm, mul_left_comm) (omega (arith, x))

-- its hundredths, its size and its sign
pub hundredths_of : (v : Float) (s : Bool) (a c : ℕ) → 0 < c → HasValue v s a c → hundredths v ≡ (200 * a + c) / (2 * c)
unfolding hundredths
hundredths_of nan s a c p h = absurd h
hundredths_of (inf t) s a c p h = absurd h
hundredths_of (fin t m e) s a c p h =
    div_same (200 * (m * up e) + down e) (2 * down e) (200 * a + c) (2 * c) (mul-pos (lit< tt) (down_pos e)) (mul-pos (lit< tt) p)
    (twice m (up e) c a (down e) h.1)

pub small_of : (v : Float) (s : Bool) (a c : ℕ) → 0 < c → HasValue v s a c → is_small v ≡ ltb (a / c) (2 ^ 52)
unfolding is_small
small_of nan s a c p h = absurd h
small_of (inf t) s a c p h = absurd h
small_of (fin t m e) s a c p h = ap (λ (n : ℕ). ltb n (2 ^ 52)) (div_same (m * up e) (down e) a c (down_pos e) p h.1)

pub sign_of_lem : (v : Float) (s : Bool) (a c : ℕ) → HasValue v s a c → is_negative v ≡ s
unfolding is_negative
sign_of_lem nan s a c h = absurd h
sign_of_lem (inf t) s a c h = absurd h
sign_of_lem (fin t m e) s a c h = h.0

-- ---- the fields of a bit pattern

shift : (d p u : ℕ) → (200 * (d * p) + p * u) * (2 * u) ≡ (200 * d + u) * (2 * (p * u))
shift d p u = simp (add-mul, mul-add, mul_assoc, mul_comm, mul_left_comm) (omega arith)

-- 2^1074 in two factors
split_power : (x : ℕ) → suc x ≤ 1075 → 2 ^ 1074 ≡ 2 ^ x * 2 ^ (1075 - suc x)
split_power x h = let e : 1074 ≡ x + (1075 - suc x) = omega arith in ap (λ (n : ℕ). 2 ^ n) e ∙ pow-add 2 x (1075 - suc x)

-- digits below and from a power of two on, shifted
stays_below : (d x l k : ℕ) → d < 2 ^ suc k → suc x ≤ l → d * 2 ^ x < 2 ^ k * 2 ^ l
stays_below d x l k few h = lt_of_lt_of_le (shl_lt (suc k) x few) (rw (← pow-add 2 k l) (pow_mono {i = suc k + x} {j = k + l} (omega arith)))

reaches : (d x l k : ℕ) → 2 ^ k ≤ d → l ≤ x → 2 ^ k * 2 ^ l ≤ d * 2 ^ x
reaches d x l k many h = mul-le-mul many (pow_mono h)

module _ (s : Bool) (x t : ℕ) (few : t < 2 ^ 52) where
  -- a float with an exponent's field from 1 on is digits · 2^(x - 1074), the leading digit put in front
  normal_value : suc x < 2047 → HasValue (of_fields binary64 s (suc x) t) s ((2 ^ 52 + t) * 2 ^ x) (2 ^ 1074)
  unfolding of_fields
  normal_value h = rw (ne_eqb (suc x) 2047 (λ z. absurd (omega arith))) (odd_sign 53 s (2 ^ 52 + t) x 1074)

  pub normal_hundredths : suc x < 1075 → hundredths (of_fields binary64 s (suc x) t) ≡ (200 * (2 ^ 52 + t) + 2 ^ (1075 - suc x)) / (2 * 2 ^ (1075 - suc x))
  normal_hundredths h =
      let p = 2 ^ x in
      let u = 2 ^ (1075 - suc x) in
      let c = split_power x (omega arith) in
      hundredths_of (of_fields binary64 s (suc x) t) s ((2 ^ 52 + t) * p) (p * u) (mul-pos (pow_pos x) (pow_pos (1075 - suc x)))
      (subst (λ (n : ℕ). HasValue (of_fields binary64 s (suc x) t) s ((2 ^ 52 + t) * p) n) c (normal_value (omega arith)))
      ∙ div_same (200 * ((2 ^ 52 + t) * p) + p * u) (2 * (p * u)) (200 * (2 ^ 52 + t) + u) (2 * u)
      (mul-pos (lit< tt) (mul-pos (pow_pos x) (pow_pos (1075 - suc x)))) (mul-pos (lit< tt) (pow_pos (1075 - suc x))) (shift (2 ^ 52 + t) p u)

  pub normal_small : suc x < 1075 → is_small (of_fields binary64 s (suc x) t) ≡ true
  normal_small h =
      small_of (of_fields binary64 s (suc x) t) s ((2 ^ 52 + t) * 2 ^ x) (2 ^ 1074) (pow_pos 1074) (normal_value (omega arith))
      ∙ lt-ltb ((2 ^ 52 + t) * 2 ^ x / 2 ^ 1074) (2 ^ 52) ((div-lt_iff_lt-mul (pow_pos 1074)).1 (stays_below (2 ^ 52 + t) x 1074 52 (omega arith) (omega arith)))

  pub normal_large : 1075 ≤ suc x → suc x < 2047 → is_small (of_fields binary64 s (suc x) t) ≡ false
  normal_large h k =
      small_of (of_fields binary64 s (suc x) t) s ((2 ^ 52 + t) * 2 ^ x) (2 ^ 1074) (pow_pos 1074) (normal_value k)
      ∙ le-ltb ((2 ^ 52 + t) * 2 ^ x / 2 ^ 1074) (2 ^ 52) ((le-div_iff_mul-le (pow_pos 1074)).1 (reaches (2 ^ 52 + t) x 1074 52 (omega arith) (omega arith)))

  pub normal_sign : suc x < 2047 → is_negative (of_fields binary64 s (suc x) t) ≡ s
  normal_sign h = sign_of_lem (of_fields binary64 s (suc x) t) s ((2 ^ 52 + t) * 2 ^ x) (2 ^ 1074) (normal_value h)

  -- one with the field 0 is smaller than any hundredth
  tiny_value : HasValue (of_fields binary64 s 0 t) s (t * 2 ^ 0) (2 ^ 1074)
  unfolding of_fields
  tiny_value = odd_sign 53 s t 0 1074

  pub tiny_hundredths : hundredths (of_fields binary64 s 0 t) ≡ 0
  tiny_hundredths =
      hundredths_of (of_fields binary64 s 0 t) s (t * 2 ^ 0) (2 ^ 1074) (pow_pos 1074) tiny_value
      ∙ div-eq_of_lt (nothing_left t 1074 (omega arith) few)
    where
      nothing_left : (t l : ℕ) → 61 ≤ l → t < 2 ^ 52 → 200 * (t * 2 ^ 0) + 2 ^ l < 2 * 2 ^ l
      nothing_left t l h k = let unit = pow_mono {i = 61} {j = l} h in rw (pow-zero 2, mul-one t) (omega arith)

  pub tiny_small : is_small (of_fields binary64 s 0 t) ≡ true
  tiny_small =
      small_of (of_fields binary64 s 0 t) s (t * 2 ^ 0) (2 ^ 1074) (pow_pos 1074) tiny_value
      ∙ lt-ltb (t * 2 ^ 0 / 2 ^ 1074) (2 ^ 52) ((div-lt_iff_lt-mul (pow_pos 1074)).1 (stays_below t 0 1074 52 (omega arith) (omega arith)))

  pub tiny_sign : is_negative (of_fields binary64 s 0 t) ≡ s
  tiny_sign = sign_of_lem (of_fields binary64 s 0 t) s (t * 2 ^ 0) (2 ^ 1074) tiny_value

-- an infinity or a NaN
pub last_field : (s : Bool) (t : ℕ) → is_small (of_fields binary64 s 2047 t) ≡ false
unfolding of_fields is_small
last_field s t = go (eqb t 0)
  where
    go : (b : Bool) → is_small (cond b (inf s) nan) ≡ false
    go true = refl
    go false = refl

-- ---- the answer, by the fields

abbrev none : Option Hundredths
none = None

abbrev some : Bool → ℕ → Option Hundredths
some negative count = Some (record { negative = negative; count = count })

field_large : (s : Bool) (x t : ℕ) → t < 2 ^ 52 → 1075 ≤ x → x < 2048 → is_small (of_fields binary64 s x t) ≡ false
field_large s zero t few h k = absurd (omega arith)
field_large s (suc x) t few h k = go (eqb (suc x) 2047) refl
  where
    go : (b : Bool) → eqb (suc x) 2047 ≡ b → is_small (of_fields binary64 s (suc x) t) ≡ false
    go true e = rw (eqb-true (suc x) 2047 e) (last_field s t)
    go false e = let n = eqb-false (suc x) 2047 e in normal_large s x t few h (le_lt (suc x) n k)
      where
        le_lt : (y : ℕ) → (y ≡ 2047 → ⊥) → y < 2048 → y < 2047
        le_lt y n k = omega arith

field_tiny : (s : Bool) (x t : ℕ) → t < 2 ^ 52 → x ≡ 0 → some s 0 ≡ nearest_hundredth (of_fields binary64 s x t)
unfolding nearest_hundredth
field_tiny s x t few e = rw (e, tiny_small s 0 t few, tiny_sign s 0 t few, tiny_hundredths s 0 t few)

field_normal : (s : Bool) (x t : ℕ) → t < 2 ^ 52 → (x ≡ 0 → ⊥) → x < 1075
    → some s ((200 * (2 ^ 52 + t) + 2 ^ (1075 - x)) / (2 * 2 ^ (1075 - x))) ≡ nearest_hundredth (of_fields binary64 s x t)
unfolding nearest_hundredth
field_normal s zero t few n h = absurd (n refl)
field_normal s (suc x) t few n h = rw (normal_small s x t few h, normal_sign s x t few (lt_of_lt_of_le h (omega arith)), normal_hundredths s x t few h)

module _ (bits x : ℕ) (e : x ≡ bits % 9223372036854775808 / 4503599627370496) where
  field_bound : x < 2048
  field_bound = let whole = mod-lt bits {m = 9223372036854775808} (lit< tt) in rw e ((div-lt_iff_lt-mul (lit< tt)).1 (omega arith))

  pub pattern_large : 1075 ≤ x → none ≡ nearest_hundredth (of_bits binary64 bits)
  unfolding nearest_hundredth of_bits
  pattern_large h = rw (← e, field_large (leb 9223372036854775808 bits) x (bits % 4503599627370496) (mod-lt bits (lit< tt)) h field_bound)

  pub pattern_tiny : x ≡ 0 → some (leb 9223372036854775808 bits) 0 ≡ nearest_hundredth (of_bits binary64 bits)
  unfolding of_bits
  pattern_tiny h = rw (← e) (field_tiny (leb 9223372036854775808 bits) x (bits % 4503599627370496) (mod-lt bits (lit< tt)) h)

  pub pattern_normal : (x ≡ 0 → ⊥) → x < 1075
      → some (leb 9223372036854775808 bits) ((200 * (4503599627370496 + bits % 4503599627370496) + 2 ^ (1075 - x)) / (2 * 2 ^ (1075 - x))) ≡ nearest_hundredth (of_bits binary64 bits)
  unfolding of_bits
  pattern_normal n h = rw (← e) (field_normal (leb 9223372036854775808 bits) x (bits % 4503599627370496) (mod-lt bits (lit< tt)) n h)
