-- A quote is no part of a list of numbers: a content that is a list is the bytes between the quotes as they stand. Assumes nothing.
use Prim.Native.Nat.{ℕ, suc, ◌+◌, ◌≤◌, zero-le}
use mathlib.Core.Bool.{Bool, true, false, cond, ◌&&◌, ◌||◌}
use mathlib.Core.List.{List, [], ◌∷◌}
use mathlib.Core.Path.{◌≡◌, refl, sym, ◌∙◌}
use native.Mathlib.Omega.{arith}
use borrow.Author.Tests.{eqb-true, leb-true}
use lib.Dec.{eqb, leb, ltb}
use lib.ListN.{length, length-map}
use Rattle.text_digits.specs.Digits.{digit, all_digits}
use Rattle.units.proofs.Tests.{and_left, and_right}
use Rattle.sheet_fields.specs.Fields.{field, raw, content}
use Rattle.sheet_fields.proofs.Bounds.{raw_length}
use Rattle.sheet_fields.proofs.Quotes.{has_quote, content_same, read_content}
use Rattle.sheet_number_lists.specs.NumberLists.{joined, words, is_plain_number, are_numbers, value_of, is_list, list_in}
use Rattle.sheet_cells.specs.Cells.{is_cell}

-- ---- a list of numbers has no quote

unfoldable digits_only : List (List ℕ) → Bool
digits_only [] = true
digits_only (w ∷ ws) = all_digits 10 w && digits_only ws

both_hold : (a b : Bool) → a ≡ true → b ≡ true → a && b ≡ true
both_hold a b p q = rw (p, q)

numbers_digits : (ws : List (List ℕ)) → are_numbers ws ≡ true → digits_only ws ≡ true
unfolding are_numbers digits_only is_plain_number
numbers_digits [] e = refl
numbers_digits (w ∷ ws) e =
    let number = and_left (is_plain_number w) (are_numbers ws) e in
    let digits = and_left (all_digits 10 w) _ (and_right (leb 1 (length w)) _ number) in
    both_hold (all_digits 10 w) (digits_only ws) digits (numbers_digits ws (and_right (is_plain_number w) (are_numbers ws) e))

joined_digits : (b : ℕ) (ws : List (List ℕ)) → digits_only (joined b ws) ≡ true → (ltb (digit b) 10 ≡ true) × (digits_only ws ≡ true)
unfolding digits_only joined all_digits
joined_digits b [] e = (and_left (ltb (digit b) 10) true (and_left (ltb (digit b) 10 && true) true e), refl)
joined_digits b (w ∷ ws) e =
    let first = and_left (ltb (digit b) 10 && all_digits 10 w) (digits_only ws) e in (
      and_left (ltb (digit b) 10) (all_digits 10 w) first,
      both_hold (all_digits 10 w) (digits_only ws) (and_right (ltb (digit b) 10) (all_digits 10 w) first) (and_right (ltb (digit b) 10 && all_digits 10 w) (digits_only ws) e),
    )

pub no_quote_digit : (b : ℕ) → ltb (digit b) 10 ≡ true → eqb b 34 ≡ false
unfolding digit
no_quote_digit b e = go (eqb b 34) refl
  where
    go : (q : Bool) → eqb b 34 ≡ q → q ≡ false
    go true k = let z : ◌≡◌ {A = ℕ} 0 1 = let same = rw (eqb-true b 34 k) at e in cc in absurd (omega arith)
    go false k = refl

no_quote_words : (t : List ℕ) → digits_only (words t) ≡ true → has_quote t ≡ false
unfolding words has_quote digits_only
no_quote_words [] e = refl
no_quote_words (b ∷ t) e = go (eqb b 32) refl e (no_quote_words t)
  where
    go : (s : Bool) → eqb b 32 ≡ s → digits_only (cond s ([] ∷ words t) (joined b (words t))) ≡ true
        → (digits_only (words t) ≡ true → has_quote t ≡ false) → eqb b 34 || has_quote t ≡ false
    go true k d h = rw (eqb-true b 32 k) (h (and_right (all_digits 10 []) (digits_only (words t)) d))
    go false k d h = let j = joined_digits b (words t) d in rw (no_quote_digit b j.0) (h j.1)

list_no_quote : (r : List ℕ) → is_list r ≡ true → has_quote r ≡ false
unfolding is_list has_quote
list_no_quote [] e = refl
list_no_quote (b ∷ t) e = no_quote_words (b ∷ t) (numbers_digits (words (b ∷ t)) e)

-- ---- the content of a field and its bytes

quote_no_list : (r : List ℕ) → has_quote r ≡ true → is_list r ≡ false
quote_no_list r e = go (is_list r) refl
  where
    go : (p : Bool) → is_list r ≡ p → p ≡ false
    go true k = sym e ∙ list_no_quote r k
    go false k = refl

pub content_list : (t : List ℕ) → is_list (content t) ≡ is_list (raw t)
content_list = read_content is_list false quote_no_list

pub content_raw : (t : List ℕ) → is_list (raw t) ≡ true → content t ≡ raw t
content_raw t e = content_same t (list_no_quote (raw t) e)

-- ---- every number takes a byte

unfoldable lengths : List (List ℕ) → ℕ
lengths [] = 0
lengths (w ∷ ws) = length w + lengths ws

joined_lengths : (b : ℕ) (ws : List (List ℕ)) → 1 ≤ length ws → (lengths (joined b ws) ≡ suc (lengths ws)) × (length (joined b ws) ≡ length ws)
unfolding lengths joined
joined_lengths b [] h = absurd (omega arith)
joined_lengths b (w ∷ ws) h = (omega arith, refl)

words_lengths : (t : List ℕ) → (1 ≤ length (words t)) × (lengths (words t) + length (words t) ≡ suc (length t))
unfolding words lengths
words_lengths [] = (omega arith, refl)
words_lengths (b ∷ t) = go (eqb b 32) (words_lengths t)
  where
    go : (s : Bool) → (1 ≤ length (words t)) × (lengths (words t) + length (words t) ≡ suc (length t))
        → (1 ≤ length (cond s ([] ∷ words t) (joined b (words t))))
        × (lengths (cond s ([] ∷ words t) (joined b (words t))) + length (cond s ([] ∷ words t) (joined b (words t))) ≡ suc (suc (length t)))
    go true h = (omega arith, omega arith)
    go false h = let j = joined_lengths b (words t) h.0 in (omega arith, omega arith)

numbers_lengths : (ws : List (List ℕ)) → are_numbers ws ≡ true → length ws ≤ lengths ws
unfolding are_numbers lengths is_plain_number
numbers_lengths [] e = zero-le
numbers_lengths (w ∷ ws) e =
    let some = leb-true 1 (length w) (and_left (leb 1 (length w)) _ (and_left (is_plain_number w) (are_numbers ws) e)) in
    let more = numbers_lengths ws (and_right (is_plain_number w) (are_numbers ws) e) in
    omega arith

list_length : (r : List ℕ) → is_list r ≡ true → length (list_in r) ≤ length r
unfolding is_list list_in
list_length [] e = zero-le
list_length (b ∷ t) e =
    let w = words_lengths (b ∷ t) in
    let n = numbers_lengths (words (b ∷ t)) e in
    rw (length-map (words (b ∷ t)) value_of) (omega arith)

-- a cell has at most as many numbers as the field takes bytes
pub cell_length : (t : List ℕ) → is_cell t ≡ true → length (list_in (content t)) ≤ (field t).next
unfolding is_cell
cell_length t e =
    let l : is_list (raw t) ≡ true = sym (content_list t) ∙ and_right (field t).sound (is_list (content t)) e in
    let short = raw_length t in
    let few = list_length (raw t) l in
    rw (content_raw t l) (omega arith)
