-- A content is a list exactly where the grammar says so, and the numbers read are the grammar's; `0` alone reads as 0, nothing alone as
-- the empty list. Assumes nothing.
use Prim.Native.Nat.{ℕ, suc, ◌+◌, ◌*◌, ◌^◌, ◌≤◌, ◌<◌}
use mathlib.Core.Path.{◌≡◌, refl, sym, ◌∙◌, ap, subst}
use mathlib.Core.Bool.{Bool, true, false, cond, not, ◌&&◌, ◌||◌, true≢false}
use mathlib.Core.List.{List, [], ◌∷◌, ◌++◌, map, nil≢cons, cons≢nil, head-eq_of_cons-eq, tail-eq_of_cons-eq}
use native.Mathlib.Omega.{arith}
use lib.Dec.{eqb, ltb, leb, lit<}
use lib.ListN.{length, get_or, length-append}
use borrow.Author.Tests.{ltb-true, leb-true, eqb-true, lt-ltb, le-leb, eq-eqb, ne_eqb}
use Rattle.units.proofs.Tests.{both}
use Rattle.text_digits.specs.Digits.{digit, all_digits, worth}
use Rattle.text_digits.proofs.Worth.{worth_grows}
use Rattle.sheet_number_lists.specs.NumberLists.{joined, words, is_plain_number, are_numbers, value_of, is_list, list_in}
use Rattle.sheet_grammar.specs.Grammar.{NumbersText, one, another, ListText, nothing, numbers}
use Rattle.sheet_grammar.proofs.Bytes.{decimal_digit, digit_worth}

-- ---- what a plain number is

-- a digit or more, no 0 in front of another digit, below 2^32
pub record PlainNumber (w : List ℕ) : Type 0 where
  pub some : 1 ≤ length w
  pub digits : all_digits 10 w ≡ true
  pub no_zero_first : (eqb (length w) 1 || not (eqb (get_or w 0 0) 48)) ≡ true
  pub fits : worth 10 0 w < 2 ^ 32

-- the test says so, and nothing else
pub plain_number_lem : (w : List ℕ) → is_plain_number w ≡ true → PlainNumber w
unfolding is_plain_number
plain_number_lem w e =
    let a = both (leb 1 (length w)) (all_digits 10 w && ((eqb (length w) 1 || not (eqb (get_or w 0 0) 48)) && ltb (worth 10 0 w) (2 ^ 32))) e in
    let b = both (all_digits 10 w) ((eqb (length w) 1 || not (eqb (get_or w 0 0) 48)) && ltb (worth 10 0 w) (2 ^ 32)) a.1 in
    let c = both (eqb (length w) 1 || not (eqb (get_or w 0 0) 48)) (ltb (worth 10 0 w) (2 ^ 32)) b.1 in
    record {
      some = leb-true 1 (length w) a.0;
      digits = b.0;
      no_zero_first = c.0;
      fits = ltb-true (worth 10 0 w) (2 ^ 32) c.1;
    }

pub plain_number_is : (w : List ℕ) → PlainNumber w → is_plain_number w ≡ true
unfolding is_plain_number
plain_number_is w p =
    rw (le-leb 1 (length w) p.some, p.digits, p.no_zero_first, lt-ltb (worth 10 0 w) (2 ^ 32) p.fits)

-- ---- words of digits

no_space : (b : ℕ) → ltb (digit b) 10 ≡ true → eqb b 32 ≡ false
no_space b e = let d = decimal_digit b e in ne_eqb b 32 (λ (z : b ≡ 32). omega arith)

-- digits alone are one word
word_alone : (w : List ℕ) → all_digits 10 w ≡ true → words w ≡ w ∷ []
unfolding words joined all_digits
word_alone [] e = refl
word_alone (b ∷ w) e =
    let parts = both (ltb (digit b) 10) (all_digits 10 w) e in
    rw (no_space b parts.0, word_alone w parts.1)

-- digits before a space are the first word
word_first : (w t : List ℕ) → all_digits 10 w ≡ true → words (w ++ 32 ∷ t) ≡ w ∷ words t
unfolding words joined all_digits
word_first [] t e = refl
word_first (b ∷ w) t e =
    let parts = both (ltb (digit b) 10) (all_digits 10 w) e in
    rw (no_space b parts.0, word_first w t parts.1)

value_of_lem : (w : List ℕ) → is_plain_number w ≡ true → value_of w ≡ worth 10 0 w
unfolding value_of
value_of_lem w e = rw e

-- ---- from the grammar to the words

record Reads (t ns : List ℕ) : Type 0 where
  some : 1 ≤ length t
  are_numbers_holds : are_numbers (words t) ≡ true
  values : map value_of (words t) ≡ ns

numbers_read : {t ns : List ℕ} → NumbersText t ns → Reads t ns
unfolding are_numbers
numbers_read (one w e) =
    let p = plain_number_lem w e in
    record {
      some = p.some;
      are_numbers_holds = rw (word_alone w p.digits, e);
      values = rw (word_alone w p.digits, value_of_lem w e);
    }
numbers_read (another w e {t = t} {ns = ns} r) =
    let p = plain_number_lem w e in
    let some = p.some in
    let more = numbers_read r in
    record {
      some = omega (arith, length-append w (32 ∷ t));
      are_numbers_holds = rw (word_first w t p.digits, e) more.are_numbers_holds;
      values = rw (word_first w t p.digits, value_of_lem w e, more.values);
    }

-- a content that has bytes is its words
as_words : (t : List ℕ) → 1 ≤ length t → (is_list t ≡ are_numbers (words t)) × (list_in t ≡ map value_of (words t))
unfolding is_list list_in
as_words [] h = absurd (omega arith)
as_words (b ∷ t) h = (refl, refl)

-- what the grammar calls a list is read as one, with the same numbers
pub list_read : {t ns : List ℕ} → ListText t ns → (is_list t ≡ true) × (list_in t ≡ ns)
unfolding is_list list_in
list_read nothing = (refl, refl)
list_read {t = t} (numbers n) =
    let r = numbers_read n in
    let w = as_words t r.some in
    (w.0 ∙ r.are_numbers_holds, w.1 ∙ r.values)

-- ---- from the words to the grammar

-- words with single spaces between them
unwords : List (List ℕ) → List ℕ
unwords [] = []
unwords (w ∷ []) = w
unwords (w ∷ v ∷ vs) = w ++ 32 ∷ unwords (v ∷ vs)

some_word : (t : List ℕ) → 1 ≤ length (words t)
unfolding words joined
some_word [] = omega arith
some_word (b ∷ t) = go (eqb b 32) (words t)
  where
    go : (s : Bool) (ws : List (List ℕ)) → 1 ≤ length (cond s ([] ∷ ws) (joined b ws))
    go true ws = omega arith
    go false [] = omega arith
    go false (w ∷ ws) = omega arith

unwords_words : (t : List ℕ) → unwords (words t) ≡ t
unfolding words joined unwords
unwords_words [] = refl
unwords_words (b ∷ t) = go (eqb b 32) refl (words t) (some_word t) ∙ ap (λ (u : List ℕ). b ∷ u) (unwords_words t)
  where
    go : (s : Bool) → eqb b 32 ≡ s → (ws : List (List ℕ)) → 1 ≤ length ws → unwords (cond s ([] ∷ ws) (joined b ws)) ≡ b ∷ unwords ws
    go true e [] h = absurd (omega arith)
    go true e (w ∷ ws) h = ap (λ (x : ℕ). x ∷ unwords (w ∷ ws)) (sym (eqb-true b 32 e))
    go false e [] h = refl
    go false e (w ∷ []) h = refl
    go false e (w ∷ v ∷ ws) h = refl

unwords_text : (w : List ℕ) (ws : List (List ℕ)) → are_numbers (w ∷ ws) ≡ true → NumbersText (unwords (w ∷ ws)) (map value_of (w ∷ ws))
unfolding are_numbers unwords
unwords_text w [] e =
    let p = (both (is_plain_number w) true e).0 in
    subst (λ (n : ℕ). NumbersText w (n ∷ [])) (sym (value_of_lem w p)) (one w p)
unwords_text w (v ∷ vs) e =
    let parts = both (is_plain_number w) (are_numbers (v ∷ vs)) e in
    subst (λ (n : ℕ). NumbersText (w ++ 32 ∷ unwords (v ∷ vs)) (n ∷ map value_of (v ∷ vs))) (sym (value_of_lem w parts.0))
    (another w parts.0 (unwords_text v vs parts.1))

numbers_text : (t : List ℕ) → are_numbers (words t) ≡ true → NumbersText t (map value_of (words t))
numbers_text t e = subst (λ (u : List ℕ). NumbersText u (map value_of (words t))) (unwords_words t) (go (words t) (some_word t) e)
  where
    go : (ws : List (List ℕ)) → 1 ≤ length ws → are_numbers ws ≡ true → NumbersText (unwords ws) (map value_of ws)
    go [] h e = absurd (omega arith)
    go (w ∷ ws) h e = unwords_text w ws e

-- what is read as a list is a list of the grammar, with the numbers read
pub list_text : (t : List ℕ) → is_list t ≡ true → ListText t (list_in t)
unfolding is_list list_in
list_text [] e = nothing
list_text (b ∷ t) e = numbers (numbers_text (b ∷ t) e)

-- ---- the chemist's sentences

-- a plain number that begins with 0 is the digit 0
pub zero_alone : (b : ℕ) (v : List ℕ) → PlainNumber (b ∷ v) → b ≡ 48 → b ∷ v ≡ 48 ∷ []
zero_alone b v p first =
    let alone : (eqb (suc (length v)) 1 || not (eqb b 48)) ≡ true = p.no_zero_first in
    ap (λ (x : ℕ). x ∷ v) first ∙ ap (λ (u : List ℕ). 48 ∷ u) (nothing_else v (eqb (suc (length v)) 1) refl (rw (eq-eqb b 48 first) at alone))
  where
    nothing_else : (v : List ℕ) (s : Bool) → eqb (suc (length v)) 1 ≡ s → (s || false) ≡ true → v ≡ []
    nothing_else [] s e f = refl
    nothing_else (x ∷ v) true e f = let n = eqb-true (suc (suc (length v))) 1 e in absurd (omega arith)
    nothing_else (x ∷ v) false e f = absurd (true≢false (sym f))

-- a plain number that is worth 0 is the digit 0
worth_nothing : (w : List ℕ) → PlainNumber w → worth 10 0 w ≡ 0 → w ≡ 48 ∷ []
unfolding all_digits worth
worth_nothing [] p z = let some = p.some in absurd (omega arith)
worth_nothing (b ∷ v) p z =
    let parts = both (ltb (digit b) 10) (all_digits 10 v) p.digits in
    let d = decimal_digit b parts.0 in
    let value = digit_worth b d in
    let grows = worth_grows 10 (lit< tt) (0 * 10 + digit b) v in
    zero_alone b v p (omega arith)

some_number : {t ns : List ℕ} → NumbersText t ns → ns ≡ [] → ⊥
some_number (one w e) z = cons≢nil z
some_number (another w e r) z = cons≢nil z

zero_text : {t ns : List ℕ} → NumbersText t ns → ns ≡ 0 ∷ [] → t ≡ 48 ∷ []
zero_text (one w e) z = worth_nothing w (plain_number_lem w e) (head-eq_of_cons-eq z)
zero_text (another w e r) z = absurd (some_number r (tail-eq_of_cons-eq z))

-- a content reads as the list 0 only where it is the one byte `0`
pub only_0_reads_as_0 : (c : List ℕ) → is_list c ≡ true → list_in c ≡ 0 ∷ [] → c ≡ 48 ∷ []
only_0_reads_as_0 c e z = go (list_text c e) z
  where
    go : {t ns : List ℕ} → ListText t ns → ns ≡ 0 ∷ [] → t ≡ 48 ∷ []
    go nothing y = absurd (nil≢cons y)
    go (numbers n) y = zero_text n y

-- and the byte `0` reads as the list 0
pub 0_reads_as_0 : (is_list (48 ∷ []) ≡ true) × (list_in (48 ∷ []) ≡ 0 ∷ [])
unfolding is_list list_in are_numbers words joined value_of is_plain_number all_digits worth digit
0_reads_as_0 = (refl, refl)

-- a content reads as the empty list only where it has no bytes
pub only_nothing_reads_as_empty : (c : List ℕ) → is_list c ≡ true → list_in c ≡ [] → c ≡ []
only_nothing_reads_as_empty c e z = go (list_text c e) z
  where
    go : {t ns : List ℕ} → ListText t ns → ns ≡ [] → t ≡ []
    go nothing y = refl
    go (numbers n) y = absurd (some_number n y)

-- and no bytes read as the empty list
pub nothing_reads_as_empty : (is_list [] ≡ true) × (list_in [] ≡ [])
unfolding is_list list_in
nothing_reads_as_empty = (refl, refl)
