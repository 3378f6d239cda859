-- A decimal's parts put together: digits before and after the point, its form, its sign. Assumes nothing.
use Rattle.std.proofs.Common.{◌≡◌, ℕ, suc, ◌+◌, ◌-◌, ◌*◌, ◌^◌, ◌<◌, ◌≤◌, Bool, true, false, cond, not, ◌&&◌, ◌||◌, eqb, ne_eqb, ltb, leb, List, [], ◌∷◌, ◌++◌, length, get_or, take, drop, sym, refl, ap, ◌∙◌, arith, lit<, length-drop, drop_of_length-le, take_all, ltb-false, ltb-true, le-ltb, le-leb, Some, None}
use borrow.Author.Tests.{lt-leb}
use lib.Pointwise.{pointwise}
use Rattle.std.proofs.Math.Bool.{and-true}
use Rattle.units.specs.Decimals.{decimal}
use Rattle.text_digits.specs.Digits.{digit, all_digits, worth}
use Rattle.units.proofs.Tests.{and_false, and_right}
use Rattle.text_digits.proofs.Worth.{worth_grows, read_of, read_none}
use Rattle.text_decimals.specs.Decimals.{whole_length, is_formed, are_few, digits_after, over_ten, is_unsigned, value_of, signed_of, decimal_of, is_minus_infinity}

-- ---- digits before and after the point

worth_append : (n : ℕ) (a b : List ℕ) → worth 10 n (a ++ b) ≡ worth 10 (worth 10 n a) b
unfolding worth
worth_append n [] b = refl
worth_append n (x ∷ a) b = worth_append (n * 10 + digit x) a b

and_assoc : (a b c : Bool) → (a && b) && c ≡ a && (b && c)
and_assoc true b c = refl
and_assoc false b c = refl

all_append : (a b : List ℕ) → all_digits 10 (a ++ b) ≡ all_digits 10 a && all_digits 10 b
unfolding all_digits
all_append [] b = refl
all_append (x ∷ a) b = rw (all_append a b) (sym (and_assoc (ltb (digit x) 10) (all_digits 10 a) (all_digits 10 b)))

-- what is few enough after the first digits is few enough with them
pub few_of : (n : ℕ) (t : List ℕ) (w : ℕ) → digits_after n t ≡ Some w → w < 10 ^ 15
unfolding digits_after are_few
few_of n t w e =
    let r = read_of (all_digits 10 t && ltb (worth 10 n t) (10 ^ 15)) (worth 10 n t) w e in
    let small = ltb-true (worth 10 n t) (10 ^ 15) (and_right (all_digits 10 t) (ltb (worth 10 n t) (10 ^ 15)) r.0) in
    let same = r.1 in
    omega arith

pub digits_join : (n : ℕ) (a b : List ℕ) (w : ℕ) → digits_after n a ≡ Some w → digits_after n (a ++ b) ≡ digits_after w b
unfolding digits_after are_few
digits_join n a b w e = go (all_digits 10 a) refl
  where
    r : (all_digits 10 a && ltb (worth 10 n a) (10 ^ 15) ≡ true) × (worth 10 n a ≡ w)
    r = read_of (all_digits 10 a && ltb (worth 10 n a) (10 ^ 15)) (worth 10 n a) w e

    go : (t : Bool) → all_digits 10 a ≡ t → digits_after n (a ++ b) ≡ digits_after w b
    go true k = rw (all_append a b, worth_append n a b, r.1, k)
    go false k = let z : false ≡ true = sym (rw k refl) ∙ r.0 in let y : ◌≡◌ {A = ℕ} 0 1 = cc in absurd (omega arith)

pub digits_none : (n : ℕ) (a b : List ℕ) → digits_after n a ≡ None → None ≡ digits_after n (a ++ b)
unfolding digits_after are_few
digits_none n a b e = go (all_digits 10 a) refl (read_none (all_digits 10 a && ltb (worth 10 n a) (10 ^ 15)) (worth 10 n a) e)
  where
    go : (t : Bool) → all_digits 10 a ≡ t → t && ltb (worth 10 n a) (10 ^ 15) ≡ false → None ≡ digits_after n (a ++ b)
    go true k h =
        let past = ltb-false (worth 10 n a) (10 ^ 15) h in
        let more = worth_grows 10 (lit< tt) (worth 10 n a) b in
        let over : 10 ^ 15 ≤ worth 10 n (a ++ b) = rw (worth_append n a b) (omega arith) in
        rw (le-ltb (worth 10 n (a ++ b)) (10 ^ 15) over, and_false)
    go false k h = rw (all_append a b, k)

-- the whole text where no point stands in it
pub no_places : (t : List ℕ) (point : ℕ) → point ≡ length t → take point t ++ drop (suc point) t ≡ t
no_places t point e = rw (take_all point t (omega arith), drop_of_length-le t {i = suc point} (omega arith)) (append_end t)
  where
    append_end : (l : List ℕ) → l ++ [] ≡ l
    append_end [] = refl
    append_end (x ∷ l) = ap (λ (m : List ℕ). x ∷ m) (append_end l)

-- a part from a place to the end
pub to_the_end : (t : List ℕ) (from : ℕ) → from ≤ length t → take (length t - from) (drop from t) ≡ drop from t
to_the_end t from h = take_all (length t - from) (drop from t) (rw (length-drop from t) (omega arith))

-- ---- the form

pub whole_fits : (t : List ℕ) → whole_length t ≤ length t
unfolding whole_length
whole_fits [] = omega arith
whole_fits (b ∷ t) = go (eqb b 46) (whole_fits t)
  where
    go : (p : Bool) → whole_length t ≤ length t → cond p 0 (suc (whole_length t)) ≤ suc (length t)
    go true h = omega arith
    go false h = omega arith

pub formed_is : (t : List ℕ) (point : ℕ) → point ≡ whole_length t → (first : ℕ) → first ≡ get_or t 0 0 → (places : ℕ) → places ≡ length t - suc point
    → (leb 1 point && ((eqb point 1 || not (eqb first 48)) && (eqb point (length t) || leb 1 places))) ≡ is_formed t
unfolding is_formed
formed_is t point e first f places p = rw (← e, f, p, length-drop (suc point) t)

-- ---- the number

module _ (negative : Bool) (t : List ℕ) where
  pub not_formed : is_formed t ≡ false → None ≡ signed_of negative t
  unfolding signed_of is_unsigned
  not_formed e = rw e

  module _ (formed : is_formed t ≡ true) (point : ℕ) (p : point ≡ whole_length t) (places : ℕ) (q : places ≡ length t - suc point) where
    count : length (drop (suc (whole_length t)) t) ≡ places
    count = rw (← p, length-drop (suc point) t, q)

    pub too_many_places : 22 < places → None ≡ signed_of negative t
    unfolding signed_of is_unsigned
    too_many_places h = rw (formed, count, lt-leb places 22 h)

    pub put_together : places ≤ 22 → over_ten negative (digits_after 0 (take point t ++ drop (suc point) t)) places ≡ signed_of negative t
    unfolding signed_of is_unsigned value_of digits_after are_few
    put_together h = rw (formed, count, le-leb places 22 h, ← p) (go (all_digits 10 all && ltb (worth 10 0 all) (10 ^ 15)) refl)
      where
        all : List ℕ
        all = take point t ++ drop (suc point) t

        go : (b : Bool) → (all_digits 10 all && ltb (worth 10 0 all) (10 ^ 15)) ≡ b
            → over_ten negative (cond b (Some (worth 10 0 all)) None) places
            ≡ cond b (Some (decimal negative (worth 10 0 all) (10 ^ places))) None
        go true k = rw (and_right (all_digits 10 all) (ltb (worth 10 0 all) (10 ^ 15)) k)
        go false k = refl

-- no bytes are no decimal
pub no_bytes : (t : List ℕ) → length t ≡ 0 → None ≡ decimal_of t
unfolding decimal_of signed_of is_unsigned is_formed whole_length
no_bytes [] e = refl
no_bytes (b ∷ t) e = absurd (omega arith)

-- ---- a text that is `-inf`

pub minus_infinity_is : (t : List ℕ) → pointwise eqb t (45 ∷ 105 ∷ 110 ∷ 102 ∷ []) ≡ is_minus_infinity t
unfolding is_minus_infinity
minus_infinity_is [] = refl
minus_infinity_is (a ∷ []) = simp and_false
minus_infinity_is (a ∷ b ∷ []) = simp and_false
minus_infinity_is (a ∷ b ∷ c ∷ []) = simp and_false
minus_infinity_is (a ∷ b ∷ c ∷ d ∷ []) = rw (and-true (eqb d 102))
minus_infinity_is (a ∷ b ∷ c ∷ d ∷ e ∷ t) = rw (ne_eqb (length (a ∷ b ∷ c ∷ d ∷ e ∷ t)) 4 (λ h. omega arith)) (simp and_false)
