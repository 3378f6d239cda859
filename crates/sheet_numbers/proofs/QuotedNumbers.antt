-- A quote is no part of a number: what a field's content is read as is read off its bytes as they stand. Assumes nothing.
use Rattle.std.proofs.Common.{Some, None}
use Rattle.std.specs.Option.{is_some, unwrap_or}
use Prim.Native.Nat.{ℕ, zero, suc, ◌-◌, ◌^◌}
use mathlib.Core.Bool.{Bool, true, false, cond, ◌&&◌, ◌||◌, true≢false}
use mathlib.Core.List.{List, [], ◌∷◌, ◌++◌}
use mathlib.Core.Path.{◌≡◌, refl, sym, ◌∙◌}
use native.Mathlib.Omega.{arith}
use borrow.Author.Tests.{eqb-true, ne_eqb, lt-ltb}
use lib.Dec.{eqb, leb, ltb}
use lib.ListN.{length, get_or, take, drop}
use Rattle.text_digits.specs.Digits.{digit, all_digits, worth}
use Rattle.units.proofs.Tests.{and_left, and_right}
use Rattle.text_decimals.specs.Decimals.{whole_length, places as decimal_places, whole_part, is_formed, are_few, is_unsigned, signed_of, decimal_of, is_minus_infinity, logarithm_of}
use Rattle.sheet_number_lists.specs.NumberLists.{is_plain_number, value_of}
use Rattle.sheet_fields.specs.Answers.{places}
use Rattle.sheet_fields.specs.Fields.{content, field_at}
use Rattle.sheet_fields.specs.declared.Field.{Field}
use Rattle.sheet_fields.proofs.Bounds.{raw_at}
use Rattle.sheet_fields.proofs.Quotes.{has_quote, read_content}
use Rattle.sheet_cells.proofs.Quotes.{no_quote_digit}
use Rattle.sheet_numbers.specs.Counts.{is_count, from_zero, count_of}
use Rattle.sheet_numbers.specs.Floats.{read_as}
use Rattle.sheet_numbers.specs.declared.float_column.Kind.{Kind}
use Rattle.sheet_numbers.specs.declared.float_column.Kind.TheVariants.{Decimals, DecimalsOrBlanks, Logarithms}

-- what has no quote where it holds does not hold of a text with one
not_with_quote : (holds : List ℕ → Bool) → ((t : List ℕ) → holds t ≡ true → has_quote t ≡ false) → (t : List ℕ) → has_quote t ≡ true → holds t ≡ false
not_with_quote holds none t e = go (holds t) refl
  where
    go : (p : Bool) → holds t ≡ p → p ≡ false
    go true k = absurd (true≢false (sym e ∙ none t k))
    go false k = refl

digits_no_quote : (t : List ℕ) → all_digits 10 t ≡ true → has_quote t ≡ false
unfolding all_digits has_quote
digits_no_quote [] e = refl
digits_no_quote (b ∷ t) e =
    rw (no_quote_digit b (and_left (ltb (digit b) 10) (all_digits 10 t) e)) (digits_no_quote t (and_right (ltb (digit b) 10) (all_digits 10 t) e))

-- ---- decimals

parts_no_quote : (t : List ℕ) → all_digits 10 (whole_part t ++ decimal_places t) ≡ true → has_quote t ≡ false
unfolding whole_length has_quote all_digits
parts_no_quote [] e = refl
parts_no_quote (b ∷ t) e = go (eqb b 46) refl e (parts_no_quote t)
  where
    go : (p : Bool) → eqb b 46 ≡ p → all_digits 10 (take (cond p 0 (suc (whole_length t))) (b ∷ t) ++ drop (suc (cond p 0 (suc (whole_length t)))) (b ∷ t)) ≡ true
        → (all_digits 10 (whole_part t ++ decimal_places t) ≡ true → has_quote t ≡ false) → eqb b 34 || has_quote t ≡ false
    go true k d more = rw (eqb-true b 46 k) (digits_no_quote t d)
    go false k d more =
        rw (no_quote_digit b (and_left (ltb (digit b) 10) (all_digits 10 (whole_part t ++ decimal_places t)) d))
        (more (and_right (ltb (digit b) 10) (all_digits 10 (whole_part t ++ decimal_places t)) d))

unsigned_no_quote : (t : List ℕ) → is_unsigned t ≡ true → has_quote t ≡ false
unfolding is_unsigned are_few
unsigned_no_quote t e =
    let all = whole_part t ++ decimal_places t in
    let few = and_right (leb (length (decimal_places t)) 22) (are_few 0 all) (and_right (is_formed t) (leb (length (decimal_places t)) 22 && are_few 0 all) e) in
    parts_no_quote t (and_left (all_digits 10 all) (ltb (worth 10 0 all) (10 ^ 15)) few)

signed_quote : (negative : Bool) (t : List ℕ) → has_quote t ≡ true → signed_of negative t ≡ None
unfolding signed_of
signed_quote negative t e = rw (not_with_quote is_unsigned unsigned_no_quote t e)

after_minus : (t : List ℕ) → eqb (get_or t 0 0) 45 ≡ true → has_quote t ≡ true → has_quote (drop 1 t) ≡ true
unfolding has_quote
after_minus [] k e = e
after_minus (b ∷ t) k e = rw (eqb-true b 45 k) at e

decimal_quote : (t : List ℕ) → has_quote t ≡ true → decimal_of t ≡ None
unfolding decimal_of
decimal_quote t e = go (eqb (get_or t 0 0) 45) refl
  where
    go : (p : Bool) → eqb (get_or t 0 0) 45 ≡ p → cond p (signed_of true (drop 1 t)) (signed_of false t) ≡ None
    go true k = signed_quote true (drop 1 t) (after_minus t k e)
    go false k = signed_quote false t e

-- ---- logarithms

infinity_no_quote : (t : List ℕ) → is_minus_infinity t ≡ true → has_quote t ≡ false
unfolding is_minus_infinity has_quote
infinity_no_quote [] e = refl
infinity_no_quote (a ∷ []) e = absurd (true≢false (sym e))
infinity_no_quote (a ∷ b ∷ []) e = absurd (true≢false (sym e))
infinity_no_quote (a ∷ b ∷ c ∷ []) e = absurd (true≢false (sym e))
infinity_no_quote (a ∷ b ∷ c ∷ d ∷ []) e =
    let minus = and_left (eqb a 45) (eqb b 105 && (eqb c 110 && eqb d 102)) e in
    let word = and_right (eqb a 45) (eqb b 105 && (eqb c 110 && eqb d 102)) e in
    let rest = and_right (eqb b 105) (eqb c 110 && eqb d 102) word in
    rw (eqb-true a 45 minus, eqb-true b 105 (and_left (eqb b 105) (eqb c 110 && eqb d 102) word), eqb-true c 110 (and_left (eqb c 110) (eqb d 102) rest), eqb-true d 102 (and_right (eqb c 110) (eqb d 102) rest))
infinity_no_quote (a ∷ b ∷ c ∷ d ∷ x ∷ t) e =
    let long : eqb (length (a ∷ b ∷ c ∷ d ∷ x ∷ t)) 4 ≡ false = ne_eqb (length (a ∷ b ∷ c ∷ d ∷ x ∷ t)) 4 (λ (q : length (a ∷ b ∷ c ∷ d ∷ x ∷ t) ≡ 4). omega arith) in
    absurd (true≢false (sym e ∙ rw long refl))

logarithm_quote : (t : List ℕ) → has_quote t ≡ true → logarithm_of t ≡ None
unfolding logarithm_of
logarithm_quote t e = rw (not_with_quote is_minus_infinity infinity_no_quote t e) (decimal_quote t e)

-- ---- a field of a column of floats

quote_bytes : (t : List ℕ) → has_quote t ≡ true → eqb (length t) 0 ≡ false
unfolding has_quote
quote_bytes [] e = absurd (true≢false (sym e))
quote_bytes (b ∷ t) e = ne_eqb (suc (length t)) 0 (λ (q : suc (length t) ≡ 0). omega arith)

quote_unread : (kind : Kind) (t : List ℕ) → has_quote t ≡ true → read_as kind t ≡ None
unfolding read_as
quote_unread Decimals t e = decimal_quote t e
quote_unread DecimalsOrBlanks t e = rw (quote_bytes t e) (decimal_quote t e)
quote_unread Logarithms t e = logarithm_quote t e

pub float_read : (kind : Kind) (text : List ℕ) (at : ℕ) (f : Field) → f ≡ places (field_at text at) → read_as kind (take (f.to - f.from) (drop f.from text)) ≡ read_as kind (content (drop at text))
float_read kind text at f e = rw (e, raw_at text at) (sym (read_content (read_as kind) None (quote_unread kind) (drop at text)))

-- ---- counts

number_no_quote : (t : List ℕ) → is_plain_number t ≡ true → has_quote t ≡ false
unfolding is_plain_number
number_no_quote t e = digits_no_quote t (and_left (all_digits 10 t) _ (and_right (leb 1 (length t)) _ e))

quote_no_count : (t : List ℕ) → has_quote t ≡ true → count_of t ≡ None
unfolding is_count
quote_no_count t e = rw (not_with_quote is_plain_number number_no_quote t e)

pub count_read : (text : List ℕ) (at : ℕ) (f : Field) → f ≡ places (field_at text at) → count_of (take (f.to - f.from) (drop f.from text)) ≡ count_of (content (drop at text))
count_read text at f e = rw (e, raw_at text at) (sym (read_content count_of None quote_no_count (drop at text)))

-- ---- a count, and whether there is one

pub count_there : (t : List ℕ) → is_some (count_of t) ≡ is_count t
count_there t = go (is_count t)
  where
    go : (p : Bool) → is_some (cond p (Some (from_zero t)) None) ≡ p
    go true = refl
    go false = refl

pub count_value : (t : List ℕ) → unwrap_or (count_of t) 0 ≡ from_zero t
unfolding is_count from_zero value_of
count_value t = go (is_plain_number t)
  where
    less : (n : ℕ) → unwrap_or (cond (ltb 0 n) (Some (n - 1)) None) 0 ≡ n - 1
    less zero = refl
    less (suc n) = rw (lt-ltb 0 (suc n) (omega arith)) refl

    go : (p : Bool) → unwrap_or (cond (p && ltb 0 (cond p (worth 10 0 t) 0)) (Some (cond p (worth 10 0 t) 0 - 1)) None) 0 ≡ cond p (worth 10 0 t) 0 - 1
    go true = less (worth 10 0 t)
    go false = refl
