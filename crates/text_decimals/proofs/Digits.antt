-- The search for a decimal's point, and the turns of the loop over its digits. Assumes nothing.
use Rattle.std.proofs.Common.{◌≡◌, ℕ, suc, ◌+◌, ◌*◌, ◌^◌, ◌<◌, ◌≤◌, Bool, true, false, cond, ◌&&◌, eqb, ltb, List, [], ◌∷◌, length, get_or, drop, sym, refl, ap, ◌∙◌, zero-le, zero-add, add-one, arith, lit<, drop_of_length-le, drop-cons, le-ltb, lt-ltb, Some, None}
use Rattle.std.specs.Option.{unwrap_or}
use Rattle.text_search.specs.Search.{place_in, index_after, index_of}
use Rattle.text_search.proofs.Searching.{place_or_end}
use Rattle.text_digits.specs.Digits.{digit, all_digits, worth}
use Rattle.units.proofs.Tests.{and_false}
use Rattle.text_digits.proofs.Worth.{worth_grows}
use Rattle.text_decimals.specs.Decimals.{whole_length, are_few, digits_after}

-- ---- up to the point

point_at : (t : List ℕ) → index_of 46 t ≡ whole_length t
unfolding index_of index_after whole_length
point_at [] = refl
point_at (b ∷ t) = go (eqb b 46) (point_at t)
  where
    go : (q : Bool) → index_of 46 t ≡ whole_length t → index_after q (index_of 46 t) ≡ cond q 0 (suc (whole_length t))
    go true h = refl
    go false h = ap suc h

-- the point where a search over the whole text finds it
pub point_found : (t : List ℕ) → unwrap_or (place_in 46 0 (length t) t) (length t) ≡ whole_length t
point_found t = place_or_end 46 0 t zero-le ∙ zero-add _ ∙ point_at t

-- ---- over digits

-- the digits before the place are worth w after others worth n, which is less than 10^15
pub record Read (n : ℕ) (digits : List ℕ) (w i : ℕ) : Type 0 where
  pub all : all_digits 10 (drop i digits) ≡ all_digits 10 digits
  pub sum : worth 10 w (drop i digits) ≡ worth 10 n digits
  pub few : w < 10 ^ 15

pub read_starts : (n : ℕ) (digits : List ℕ) → n < 10 ^ 15 → Read n digits n 0
read_starts n digits h = record { all = refl; sum = refl; few = h }

module _ (n : ℕ) (digits : List ℕ) (w i : ℕ) (s : Read n digits w i) where
  pub read_ends : length digits ≤ i → Some w ≡ digits_after n digits
  unfolding digits_after are_few all_digits worth
  read_ends h =
      let none = drop_of_length-le digits h in
      let all : all_digits 10 digits ≡ true = sym s.all ∙ rw none refl in
      let sum : worth 10 n digits ≡ w = sym s.sum ∙ rw none refl in
      rw (all, sum, lt-ltb w (10 ^ 15) s.few)

  module _ (d : ℕ) (h : i < length digits) (e : d ≡ digit (get_or digits i 0)) where
    all_here : all_digits 10 (drop i digits) ≡ ltb d 10 && all_digits 10 (drop (i + 1) digits)
    unfolding all_digits
    all_here = rw (drop-cons digits i 0 h, e, add-one)

    sum_here : worth 10 w (drop i digits) ≡ worth 10 (w * 10 + d) (drop (i + 1) digits)
    unfolding worth
    sum_here = rw (drop-cons digits i 0 h, e, add-one)

    pub read_stops : 10 ≤ d → None ≡ digits_after n digits
    unfolding digits_after are_few
    read_stops k =
        let some : all_digits 10 digits ≡ false = sym s.all ∙ all_here ∙ rw (le-ltb d 10 k) refl in
        rw some

    pub read_passes : 10 ^ 15 ≤ w * 10 + d → None ≡ digits_after n digits
    unfolding digits_after are_few
    read_passes k =
        let more = worth_grows 10 (lit< tt) (w * 10 + d) (drop (i + 1) digits) in
        let same = sym s.sum ∙ sum_here in
        let past : 10 ^ 15 ≤ worth 10 n digits = omega arith in
        rw (le-ltb (worth 10 n digits) (10 ^ 15) past, and_false)

    pub read_goes_on : d < 10 → w * 10 + d < 10 ^ 15 → Read n digits (w * 10 + d) (i + 1)
    read_goes_on k f = record { all = sym (all_here ∙ rw (lt-ltb d 10 k) refl) ∙ s.all; sum = sym sum_here ∙ s.sum; few = f }
