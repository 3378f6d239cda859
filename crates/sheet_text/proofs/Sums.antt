-- Laws of lengths that are added up and stop at the largest usize: stopping as one goes is stopping at the end. Assumes nothing.
use Prim.Native.Nat.{ℕ, zero, suc, ◌+◌, ◌/◌, ◌^◌, ◌≤◌, ◌<◌}
use mathlib.Core.List.{List, [], ◌++◌}
use mathlib.Core.Path.{◌≡◌, refl, sym, ap, ◌∙◌}
use native.Mathlib.Omega.{arith}
use lib.ListN.{length, get_or, drop, length-append}
use lib.Dec.{lit<, lit≤}
use Rattle.io.specs.Digits.{last_digits, IsDigitCount}
use Rattle.text_put.specs.Puts.{number_text}
use Rattle.text_put.proofs.Spelling.{at_most, number_text_lem}
use Rattle.sheet_text.specs.Written.{gap, spaced}
use Rattle.sheet_text.proofs.Parts.{field_next}
use Rattle.sheet_text.specs.Lengths.{capped}

-- ---- a number

digits_length : (b k n : ℕ) → length (last_digits b k n) ≡ k
digits_length b zero n = refl
digits_length b (suc k) n = rw length-append (omega (arith, digits_length b k (n / b)))

pub count_of : (n k : ℕ) → n < 2 ^ 64 → IsDigitCount 10 1 n k → k ≡ length (number_text n)
count_of n k h w = sym (digits_length 10 k n) ∙ ap length (number_text_lem n k w h)

pub count_small : (n k : ℕ) → n < 2 ^ 64 → IsDigitCount 10 1 n k → k ≤ 20
count_small n k h w = at_most 10 1 n k 20 (lit< tt) w (lit≤ tt) (omega arith)

-- ---- a sum's turns

-- what is left of the whole is still to be added
pub record Summing (whole left : List ℕ) (total : ℕ) : Type 0 where
  pub within : total < 2 ^ 64
  pub same : capped (length whole) ≡ capped (total + length left)

pub summing_starts : (whole : List ℕ) → Summing whole whole 0
summing_starts whole = record { within = omega arith; same = omega arith }

module _ {whole left : List ℕ} {total : ℕ} (s : Summing whole left total) where
  pub summing_goes_on : (a more : List ℕ) → left ≡ a ++ more → (x r : ℕ) → x ≡ capped (length a) → r ≡ capped (total + x) → Summing whole more r
  summing_goes_on a more e x r p q =
      let n : length left ≡ length a + length more = rw e (length-append a more) in
      let was = s.same in
      record { within = omega arith; same = omega arith }

  pub summing_ends : left ≡ [] → total ≡ capped (length whole)
  summing_ends e =
      let n : length left ≡ 0 = rw e refl in
      let was = s.same in
      let fits = s.within in
      omega arith

-- two parts that are added up first
pub sum_of_two : (a b : List ℕ) (x y r : ℕ) → x ≡ capped (length a) → y ≡ length b → r ≡ capped (x + y) → r ≡ capped (length (a ++ b))
sum_of_two a b x y r p q e = rw (length-append a b) (omega arith)

-- the next number of a field
pub field_goes_on : (list : List ℕ) (i total : ℕ) → Summing (spaced 0 list) (spaced i (drop i list)) total → i < length list
    → (n x r : ℕ) → n ≡ get_or list i 0 → x ≡ length (gap i ++ number_text n) → r ≡ capped (total + x) → Summing (spaced 0 list) (spaced (i + 1) (drop (i + 1) list)) r
field_goes_on list i total s h n x r e p q =
    let this : x ≡ length (gap i ++ number_text (get_or list i 0)) = rw e at p in
    let all = ap length (field_next list i h) ∙ length-append (gap i ++ number_text (get_or list i 0)) (spaced (i + 1) (drop (i + 1) list)) in
    let was = s.same in
    record { within = omega arith; same = omega arith }
