-- A word is a plain number exactly where it is the decimal text of a number below 2^32. Assumes nothing.
use Prim.Native.Nat.{ℕ, zero, suc, ◌+◌, ◌-◌, ◌*◌, ◌/◌, ◌%◌, ◌^◌, ◌≤◌, ◌<◌}
use mathlib.Core.Path.{◌≡◌, refl, sym, ◌∙◌, ap}
use mathlib.Core.Bool.{Bool, true, false, cond, not, ◌||◌}
use mathlib.Core.List.{List, [], ◌∷◌, ◌++◌, append-nil}
use native.Mathlib.Nat.{pow-suc, pow-le-pow_right, add-zero}
use native.Mathlib.Omega.{arith}
use lib.Dec.{eqb, ltb, leb, lit<}
use lib.ListN.{length, get_or, length-append, get_or-append}
use lib.Seq.{append_snoc}
use borrow.Author.Tests.{ltb-true, ltb-false, lt-ltb, le-ltb, leb-true, leb-false, eqb-true, eqb-false, ne_eqb}
use Rattle.units.proofs.Tests.{both}
use Rattle.text_put.specs.Puts.{decimal, number_text}
use Rattle.text_digits.specs.Digits.{digit, all_digits, worth}
use Rattle.sheet_number_lists.specs.NumberLists.{is_plain_number}
use Rattle.sheet_grammar.proofs.Bytes.{Between, decimal_digit, digit_worth}
use Rattle.sheet_grammar.proofs.Contents.{PlainNumber, plain_number_lem, plain_number_is, zero_alone}

-- ---- digits one after the other

digits_append : (s t : List ℕ) → all_digits 10 s ≡ true → all_digits 10 t ≡ true → all_digits 10 (s ++ t) ≡ true
unfolding all_digits
digits_append [] t e f = f
digits_append (b ∷ s) t e f = let parts = both (ltb (digit b) 10) (all_digits 10 s) e in rw parts.0 (digits_append s t parts.1 f)

worth_append : (n : ℕ) (s t : List ℕ) → worth 10 n (s ++ t) ≡ worth 10 (worth 10 n s) t
unfolding worth
worth_append n [] t = refl
worth_append n (b ∷ s) t = worth_append (n * 10 + digit b) s t

-- ---- the text of a number

module _ (n : ℕ) where
  last_digit : Between 48 58 (48 + n % 10)
  last_digit = record { least = omega arith; most = omega arith }

  last_worth : digit (48 + n % 10) ≡ n % 10
  last_worth = digit_worth (48 + n % 10) last_digit ∙ omega arith

  last_is : all_digits 10 ((48 + n % 10) ∷ []) ≡ true
  unfolding all_digits
  last_is = rw last_worth (rw (lt-ltb (n % 10) 10 (omega arith)))

decimal_some : (k n : ℕ) → 1 ≤ length (decimal k n)
unfolding decimal
decimal_some zero n = omega arith
decimal_some (suc k) n = go (ltb n 10)
  where
    go : (s : Bool) → 1 ≤ length (cond s ((48 + n % 10) ∷ []) (decimal k (n / 10) ++ ((48 + n % 10) ∷ [])))
    go true = omega arith
    go false = omega (arith, length-append (decimal k (n / 10)) ((48 + n % 10) ∷ []))

decimal_digits : (k n : ℕ) → all_digits 10 (decimal k n) ≡ true
unfolding decimal
decimal_digits zero n = last_is n
decimal_digits (suc k) n = go (ltb n 10) (decimal_digits k (n / 10))
  where
    go : (s : Bool) → all_digits 10 (decimal k (n / 10)) ≡ true → all_digits 10 (cond s ((48 + n % 10) ∷ []) (decimal k (n / 10) ++ ((48 + n % 10) ∷ []))) ≡ true
    go true e = last_is n
    go false e = digits_append (decimal k (n / 10)) ((48 + n % 10) ∷ []) e (last_is n)

-- a number of few enough digits
fewer : (k n : ℕ) → n < 10 ^ suc (suc k) → n / 10 < 10 ^ suc k
fewer k n h = let p = pow-suc 10 (suc k) in omega arith

decimal_worth : (k n : ℕ) → n < 10 ^ suc k → worth 10 0 (decimal k n) ≡ n
unfolding decimal worth
decimal_worth zero n h = let d = last_worth n in omega arith
decimal_worth (suc k) n h = go (ltb n 10) refl (decimal_worth k (n / 10) (fewer k n h))
  where
    go : (s : Bool) → ltb n 10 ≡ s → worth 10 0 (decimal k (n / 10)) ≡ n / 10 → worth 10 0 (cond s ((48 + n % 10) ∷ []) (decimal k (n / 10) ++ ((48 + n % 10) ∷ []))) ≡ n
    go true e w = let small = ltb-true n 10 e in let d = last_worth n in omega arith
    go false e w = worth_append 0 (decimal k (n / 10)) ((48 + n % 10) ∷ []) ∙ (let d = last_worth n in rw w (omega arith))

-- the first digit of a number that is not 0 is not 0
decimal_first : (k n : ℕ) → n < 10 ^ suc k → 1 ≤ n → get_or (decimal k n) 0 0 ≡ 48 → ⊥
unfolding decimal
decimal_first zero n h some z = omega arith
decimal_first (suc k) n h some z = go (ltb n 10) refl (decimal_first k (n / 10) (fewer k n h)) z
  where
    go : (s : Bool) → ltb n 10 ≡ s → (1 ≤ n / 10 → get_or (decimal k (n / 10)) 0 0 ≡ 48 → ⊥) → get_or (cond s ((48 + n % 10) ∷ []) (decimal k (n / 10) ++ ((48 + n % 10) ∷ []))) 0 0 ≡ 48 → ⊥
    go true e w z = let small = ltb-true n 10 e in omega arith
    go false e w z =
        let large = ltb-false n 10 e in
        w (omega arith) (sym (get_or-append (decimal k (n / 10)) ((48 + n % 10) ∷ []) 0 0 (decimal_some k (n / 10))) ∙ z)

decimal_zero : decimal 19 0 ≡ 48 ∷ []
unfolding decimal
decimal_zero = refl

module _ (n : ℕ) (h : n < 2 ^ 32) where
  few : n < 10 ^ 20
  few = omega arith

  -- the text of a number below 2^32 is worth that number
  pub text_worth : worth 10 0 (number_text n) ≡ n
  unfolding number_text
  text_worth = decimal_worth 19 n few

  no_zero_first : (eqb (length (decimal 19 n)) 1 || not (eqb (get_or (decimal 19 n) 0 0) 48)) ≡ true
  no_zero_first = go (eqb n 0) refl
    where
      either : (p : Bool) → (p || true) ≡ true
      either true = refl
      either false = refl

      go : (s : Bool) → eqb n 0 ≡ s → (eqb (length (decimal 19 n)) 1 || not (eqb (get_or (decimal 19 n) 0 0) 48)) ≡ true
      go true e = rw (eqb-true n 0 e, decimal_zero)
      go false e =
          let some = eqb-false n 0 e in
          rw (ne_eqb (get_or (decimal 19 n) 0 0) 48 (decimal_first 19 n few (omega arith))) (either (eqb (length (decimal 19 n)) 1))

  -- the text of a number below 2^32 is a plain number
  pub text_is_plain : is_plain_number (number_text n) ≡ true
  unfolding number_text
  text_is_plain =
      plain_number_is (decimal 19 n)
      (record { some = decimal_some 19 n; digits = decimal_digits 19 n; no_zero_first = no_zero_first; fits = rw (decimal_worth 19 n few) h })

-- ---- a plain number is such a text

-- digits behind a number go behind its text
digits_behind : (k n : ℕ) (xs : List ℕ) → 1 ≤ n → all_digits 10 xs ≡ true → decimal (k + length xs) (worth 10 n xs) ≡ decimal k n ++ xs
unfolding all_digits worth decimal
digits_behind k n [] some e = ap (λ (j : ℕ). decimal j n) (add-zero k) ∙ sym (append-nil (decimal k n))
digits_behind k n (x ∷ xs) some e =
    let parts = both (ltb (digit x) 10) (all_digits 10 xs) e in
    let up : k + suc (length xs) ≡ suc k + length xs = omega arith in
    ap (λ (j : ℕ). decimal j (worth 10 (n * 10 + digit x) xs)) up
    ∙ digits_behind (suc k) (n * 10 + digit x) xs (omega arith) parts.1
    ∙ ap (λ (l : List ℕ). l ++ xs) (one_behind (decimal_digit x parts.0))
    ∙ append_snoc (decimal k n) x xs
  where
    one_behind : Between 48 58 x → decimal (suc k) (n * 10 + digit x) ≡ decimal k n ++ (x ∷ [])
    one_behind d =
        let value = digit_worth x d in
        let before : (n * 10 + digit x) / 10 ≡ n = omega arith in
        let here : 48 + (n * 10 + digit x) % 10 ≡ x = omega arith in
        rw (le-ltb (n * 10 + digit x) 10 (omega arith), before, here)

-- a number that is large before some digits is larger with them
grows_by_digits : (j n : ℕ) (xs : List ℕ) → 10 ^ j ≤ n → 10 ^ (j + length xs) ≤ worth 10 n xs
unfolding worth
grows_by_digits j n [] h = rw (add-zero j) h
grows_by_digits j n (x ∷ xs) h =
    let up : j + suc (length xs) ≡ suc j + length xs = omega arith in
    let p = pow-suc 10 j in
    rw up (grows_by_digits (suc j) (n * 10 + digit x) xs (omega arith))

one_digit : (k b : ℕ) → Between 48 58 b → decimal k (digit b) ≡ b ∷ []
unfolding decimal
one_digit zero b d = let value = digit_worth b d in ap (λ (x : ℕ). x ∷ []) (let same : 48 + digit b % 10 ≡ b = omega arith in same)
one_digit (suc k) b d =
    let value = digit_worth b d in
    let same : 48 + digit b % 10 ≡ b = omega arith in
    rw (lt-ltb (digit b) 10 (omega arith), same)

-- digits that begin with another one than 0, and few enough
long_text : (b : ℕ) (v : List ℕ) → Between 48 58 b → (b ≡ 48 → ⊥) → all_digits 10 v ≡ true → worth 10 (digit b) v < 2 ^ 32 → decimal 19 (worth 10 (digit b) v) ≡ b ∷ v
long_text b v d some e small =
    let value = digit_worth b d in
    let large = grows_by_digits 0 (digit b) v (let one : 10 ^ 0 ≤ digit b = omega (arith, some) in one) in
    let few : length v ≤ 19 = short (leb (length v) 19) refl large in
    let all : 19 - length v + length v ≡ 19 = omega arith in
    ap (λ (j : ℕ). decimal j (worth 10 (digit b) v)) (sym all)
    ∙ digits_behind (19 - length v) (digit b) v (omega (arith, some)) e
    ∙ ap (λ (l : List ℕ). l ++ v) (one_digit (19 - length v) b d)
  where
    short : (s : Bool) → leb (length v) 19 ≡ s → 10 ^ (0 + length v) ≤ worth 10 (digit b) v → length v ≤ 19
    short true f large = leb-true (length v) 19 f
    short false f large =
        let over = leb-false (length v) 19 f in
        let many : 20 ≤ 0 + length v = omega arith in
        let up : 10 ^ 20 ≤ 10 ^ (0 + length v) = pow-le-pow_right (lit< tt) many in
        absurd (omega arith)

-- a plain number is the text of what it is worth
pub plain_is_text : (w : List ℕ) → is_plain_number w ≡ true → w ≡ number_text (worth 10 0 w)
unfolding number_text worth all_digits digit
plain_is_text [] e = let some = (plain_number_lem [] e).some in absurd (omega arith)
plain_is_text (b ∷ v) e = go (eqb b 48) refl
  where
    p : PlainNumber (b ∷ v)
    p = plain_number_lem (b ∷ v) e

    go : (s : Bool) → eqb b 48 ≡ s → b ∷ v ≡ decimal 19 (worth 10 (0 * 10 + digit b) v)
    go true z =
        let first = eqb-true b 48 z in
        let alone = zero_alone b v p first in
        let nothing : b ∷ v ≡ 48 ∷ [] = alone in
        nothing ∙ sym decimal_zero ∙ ap (λ (w : List ℕ). decimal 19 (worth 10 0 w)) (sym nothing)
    go false z =
        let parts = both (ltb (digit b) 10) (all_digits 10 v) p.digits in
        let value : 0 * 10 + digit b ≡ digit b = omega arith in
        rw value (sym (long_text b v (decimal_digit b parts.0) (eqb-false b 48 z) parts.1 (rw value at p.fits)))
