-- Laws of digits and what they are worth: how a reading from the front goes on, and when it passes 2^64. Assumes nothing.
use Prim.Native.Nat.{ℕ, suc, ◌+◌, ◌*◌, ◌^◌, ◌≤◌, ◌<◌}
use mathlib.Core.Bool.{Bool, true, false, cond, ◌&&◌}
use mathlib.Core.List.{List, [], ◌∷◌}
use mathlib.Core.Path.{◌≡◌, refl, sym, ◌∙◌}
use native.Mathlib.Nat.{le_refl, le-mul_of_pos_right, mul-le-mul_right, pow-zero, pow-succ', pow-le-pow_right, add-mul, one-mul, mul_assoc}
use native.Mathlib.Numerals.{add-one}
use native.Mathlib.Omega.{arith}
use borrow.Author.Tests.{lt-ltb, le-ltb, le-leb, lt-leb, eq-eqb, ne_eqb, ltb-true, ltb-false}
use lib.Dec.{ltb, leb, lit<}
use lib.Ieee.{binary64, of_bits}
use lib.ListN.{length, get_or, drop, drop_of_length-le}
use lib.Seq.{drop-cons}
use Rattle.text_digits.specs.Digits.{digit, digit_of, all_digits, worth, whole_of, is_number, number_of, is_float, bits_of, float_in, float_of}
use Rattle.std.proofs.Common.{Some, None}
pub use Rattle.units.proofs.Tests.{and_false, and_left, and_right}

pub worth_grows : (base : ℕ) → 0 < base → (n : ℕ) (xs : List ℕ) → n ≤ worth base n xs
unfolding worth
worth_grows base some n [] = le_refl n
worth_grows base some n (x ∷ xs) =
    let more = worth_grows base some (n * base + digit x) xs in
    let up = le-mul_of_pos_right n some in
    omega arith

-- ---- what an answer says of the text

pub read_of : (t : Bool) (w x : ℕ) → cond t (Some w) None ≡ Some x → (t ≡ true) × (w ≡ x)
read_of true w x e = (refl, cc)
read_of false w x e = let z : ◌≡◌ {A = ℕ} 0 1 = cc in absurd (omega arith)

pub read_none : (t : Bool) (w : ℕ) → cond t (Some w) None ≡ None → t ≡ false
read_none true w e = let z : ◌≡◌ {A = ℕ} 0 1 = cc in absurd (omega arith)
read_none false w e = refl

-- ---- a digit

pub digit_none : (b : ℕ) → digit_of b ≡ None → 16 ≤ digit b
unfolding digit_of
digit_none b e = ltb-false (digit b) 16 (read_none (ltb (digit b) 16) (digit b) e)

pub digit_some : (b d : ℕ) → digit_of b ≡ Some d → (d ≡ digit b) × (d < 16)
unfolding digit_of
digit_some b d e = let r = read_of (ltb (digit b) 16) (digit b) d e in let small = ltb-true (digit b) 16 r.0 in (sym r.1, omega arith)

-- ---- the reading's turns

-- a reading has come to a place: the digits before it are worth n, and fit
pub record Reading (base : ℕ) (value : List ℕ) (n i : ℕ) : Type 0 where
  pub digits : all_digits base (drop i value) ≡ all_digits base value
  pub sum : worth base n (drop i value) ≡ worth base 0 value
  pub fits : n < 2 ^ 64

pub reading_starts : (base : ℕ) (value : List ℕ) → Reading base value 0 0
reading_starts base value = record { digits = refl; sum = refl; fits = omega arith }

module _ (base : ℕ) (value : List ℕ) (n i : ℕ) (s : Reading base value n i) where
  pub reading_ends : length value ≤ i → Some n ≡ whole_of base value
  unfolding whole_of all_digits worth
  reading_ends h =
      let none = drop_of_length-le value h in
      let all : all_digits base value ≡ true = sym s.digits ∙ rw none refl in
      let all_worth : worth base 0 value ≡ n = sym s.sum ∙ rw none refl in
      rw (all, all_worth, lt-ltb n (2 ^ 64) s.fits)

  module _ (d : ℕ) (h : i < length value) (e : d ≡ digit (get_or value i 0)) where
    digits_here : all_digits base (drop i value) ≡ ltb d base && all_digits base (drop (i + 1) value)
    unfolding all_digits
    digits_here = rw (drop-cons value i 0 h, e, add-one)

    sum_here : worth base n (drop i value) ≡ worth base (n * base + d) (drop (i + 1) value)
    unfolding worth
    sum_here = rw (drop-cons value i 0 h, e, add-one)

    pub reading_stops : base ≤ d → None ≡ whole_of base value
    unfolding whole_of
    reading_stops k =
        let some : all_digits base value ≡ false = sym s.digits ∙ digits_here ∙ rw (le-ltb d base k) refl in
        rw some

    pub reading_passes : 0 < base → 2 ^ 64 ≤ n * base + d → None ≡ whole_of base value
    unfolding whole_of
    reading_passes some k =
        let more = worth_grows base some (n * base + d) (drop (i + 1) value) in
        let same = sym s.sum ∙ sum_here in
        let past : 2 ^ 64 ≤ worth base 0 value = omega arith in
        rw (le-ltb (worth base 0 value) (2 ^ 64) past, and_false)

    pub reading_goes_on : d < base → n * base + d < 2 ^ 64 → Reading base value (n * base + d) (i + 1)
    reading_goes_on k f =
        record {
          digits = sym (digits_here ∙ rw (lt-ltb d base k) refl) ∙ s.digits;
          sum = sym sum_here ∙ s.sum;
          fits = f;
        }

-- ---- how much digits can be worth

pub worth_bound : (base n : ℕ) (xs : List ℕ) → all_digits base xs ≡ true → worth base n xs < (n + 1) * base ^ length xs
unfolding worth all_digits
worth_bound base n [] e = rw (pow-zero base) (omega arith)
worth_bound base n (x ∷ xs) e = go (ltb (digit x) base) refl e (worth_bound base (n * base + digit x) xs)
  where
    go : (t : Bool) → ltb (digit x) base ≡ t → t && all_digits base xs ≡ true
        → (all_digits base xs ≡ true → worth base (n * base + digit x) xs < (n * base + digit x + 1) * base ^ length xs)
        → worth base (n * base + digit x) xs < (n + 1) * base ^ suc (length xs)
    go true h k more =
        let small = ltb-true (digit x) base h in
        let one : n * base + digit x + 1 ≤ (n + 1) * base = rw (add-mul n 1 base, one-mul base) (omega arith) in
        let all = mul-le-mul_right (base ^ length xs) one in
        let this = more k in
        rw (pow-succ' base (length xs), ← mul_assoc (n + 1) base (base ^ length xs)) (omega arith)
    go false h k more = let z : ◌≡◌ {A = ℕ} 0 1 = cc in absurd (omega arith)

pub worth_fits : (k : ℕ) (xs : List ℕ) → length xs ≡ k → k ≤ 16 → all_digits 16 xs ≡ true → worth 16 0 xs < 2 ^ 64
worth_fits k xs e h a =
    let b : worth 16 0 xs < (0 + 1) * 16 ^ k = rw (← e) (worth_bound 16 0 xs a) in
    let p : 16 ^ k ≤ 16 ^ 16 = pow-le-pow_right (lit< tt) h in
    omega (arith, one-mul (16 ^ k))

-- hexadecimal digits that are few enough always fit
pub whole_16 : (xs : List ℕ) → length xs ≤ 16 → whole_of 16 xs ≡ cond (all_digits 16 xs) (Some (worth 16 0 xs)) None
unfolding whole_of
whole_16 xs h = go (all_digits 16 xs) refl
  where
    go : (t : Bool) → all_digits 16 xs ≡ t
        → cond (t && ltb (worth 16 0 xs) (2 ^ 64)) (Some (worth 16 0 xs)) None ≡ cond t (Some (worth 16 0 xs)) None
    go true e = rw (lt-ltb (worth 16 0 xs) (2 ^ 64) (worth_fits (length xs) xs refl h e))
    go false e = refl

-- ---- numbers

module _ (limit : ℕ) (value : List ℕ) where
  pub number_none : length value ≡ 0 → None ≡ number_of limit value
  unfolding number_of is_number
  number_none e = rw e

  pub number_long : 20 < length value → None ≡ number_of limit value
  unfolding number_of is_number
  number_long h = rw (lt-leb (length value) 20 h, and_false)

pub number_whole : (value : List ℕ) → (length value ≡ 0 → ⊥) → length value ≤ 20 → whole_of 10 value ≡ number_of (2 ^ 64) value
unfolding whole_of number_of is_number
number_whole value n h = rw (le-leb 1 (length value) (omega arith), le-leb (length value) 20 h)

pub number_of_lem : (limit : ℕ) (value : List ℕ) (x : ℕ) → number_of limit value ≡ Some x → (is_number limit value ≡ true) × (worth 10 0 value ≡ x)
unfolding number_of
number_of_lem limit value x e = read_of (is_number limit value) (worth 10 0 value) x e

pub number_not : (limit : ℕ) (value : List ℕ) → number_of limit value ≡ None → is_number limit value ≡ false
unfolding number_of
number_not limit value e = read_none (is_number limit value) (worth 10 0 value) e

pub number_small : (limit : ℕ) (value : List ℕ) → is_number limit value ≡ true → worth 10 0 value < limit
unfolding is_number
number_small limit value e =
    ltb-true (worth 10 0 value) limit (and_right (leb 1 (length value) && leb (length value) 20 && all_digits 10 value) (ltb (worth 10 0 value) limit) e)

-- a smaller limit
module _ (limit : ℕ) (value : List ℕ) (small : limit ≤ 2 ^ 64) where
  abbrev shape : Bool
  shape = leb 1 (length value) && leb (length value) 20 && all_digits 10 value

  pub below_none : number_of (2 ^ 64) value ≡ None → None ≡ number_of limit value
  unfolding number_of is_number
  below_none e = go shape refl (read_none (shape && ltb (worth 10 0 value) (2 ^ 64)) (worth 10 0 value) e)
    where
      go : (t : Bool) → shape ≡ t → t && ltb (worth 10 0 value) (2 ^ 64) ≡ false
          → None ≡ cond (t && ltb (worth 10 0 value) limit) (Some (worth 10 0 value)) None
      go true k h =
          let past = ltb-false (worth 10 0 value) (2 ^ 64) h in
          let over : limit ≤ worth 10 0 value = omega arith in
          rw (le-ltb (worth 10 0 value) limit over)
      go false k h = refl

  module _ (x : ℕ) (e : number_of (2 ^ 64) value ≡ Some x) where
    shaped : (shape ≡ true) × (worth 10 0 value ≡ x)
    unfolding number_of is_number
    shaped =
        let r = read_of (shape && ltb (worth 10 0 value) (2 ^ 64)) (worth 10 0 value) x e in
        (and_left shape (ltb (worth 10 0 value) (2 ^ 64)) r.0, r.1)

    pub below_of : x < limit → Some x ≡ number_of limit value
    unfolding number_of is_number
    below_of h = rw (shaped.0, shaped.1, lt-ltb x limit h)

    pub below_over : limit ≤ x → None ≡ number_of limit value
    unfolding number_of is_number
    below_over h = rw (shaped.0, shaped.1, le-ltb x limit h)

-- ---- floats

pub bits_none : (value : List ℕ) → (length value ≡ 16 → ⊥) → None ≡ bits_of value
unfolding bits_of is_float
bits_none value n = rw (ne_eqb (length value) 16 n)

pub bits_whole : (value : List ℕ) → length value ≡ 16 → whole_of 16 value ≡ bits_of value
unfolding bits_of is_float
bits_whole value e = whole_16 value (omega arith) ∙ rw (eq-eqb (length value) 16 e) refl

pub bits_of_lem : (value : List ℕ) (x : ℕ) → bits_of value ≡ Some x → (is_float value ≡ true) × (worth 16 0 value ≡ x)
unfolding bits_of
bits_of_lem value x e = read_of (is_float value) (worth 16 0 value) x e

pub bits_not : (value : List ℕ) → bits_of value ≡ None → is_float value ≡ false
unfolding bits_of
bits_not value e = read_none (is_float value) (worth 16 0 value) e

pub float_read : (value : List ℕ) (x : ℕ) → bits_of value ≡ Some x → Some (of_bits binary64 x) ≡ float_of value
unfolding float_of float_in
float_read value x e = let r = bits_of_lem value x e in rw (r.0, r.1)

pub float_bad : (value : List ℕ) → bits_of value ≡ None → None ≡ float_of value
unfolding float_of
float_bad value e = rw (bits_not value e)
