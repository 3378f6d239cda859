-- Laws of a walk over the words of a content: how counting them and putting their numbers goes on. Assumes nothing.
use Prim.Native.Nat.{ℕ, suc, ◌+◌, ◌-◌, ◌≤◌, ◌<◌, min}
use mathlib.Core.Bool.{Bool, true, false, cond}
use mathlib.Core.List.{List, [], ◌∷◌, map}
use mathlib.Core.Path.{◌≡◌, refl, sym, ap, ◌∙◌}
use native.Mathlib.Numerals.{add-one}
use native.Mathlib.Omega.{arith}
use Rattle.std.specs.Prelude.{Option, Some, None, unwrap_or}
use Rattle.std.specs.List.{slice_split}
use Rattle.text_digits.specs.Digits.{worth}
use lib.Dec.{eqb}
use lib.ListN.{length, get_or, take, drop, set, length-map, drop_of_length-le}
use lib.Seq.{append_snoc, set_split, drop-cons}
use Rattle.text_put.specs.Puts.{written, Put}
use Rattle.text_put.proofs.Putting.{put_nowhere, place_nowhere, Ending, starts_anywhere, ending_goes_on, ending_ends}
use Rattle.sheet_number_lists.specs.NumberLists.{is_plain_number, are_numbers, value_of, words, is_list, list_in}
use Rattle.sheet_number_lists.specs.Counts.{plain_number, list_count}
use Rattle.sheet_number_lists.proofs.Words.{words_are}

-- ---- contents with bytes and without

some_list : (t : List ℕ) → (length t ≡ 0 → ⊥) → is_list t ≡ are_numbers (words t)
unfolding is_list
some_list [] h = absurd (h refl)
some_list (b ∷ t) h = refl

some_numbers : (t : List ℕ) → (length t ≡ 0 → ⊥) → list_in t ≡ map value_of (words t)
unfolding list_in
some_numbers [] h = absurd (h refl)
some_numbers (b ∷ t) h = refl

pub no_numbers : (t : List ℕ) → length t ≡ 0 → list_in t ≡ []
unfolding list_in
no_numbers [] e = refl
no_numbers (b ∷ t) e = absurd (omega arith)

pub no_count : (t : List ℕ) → length t ≡ 0 → Some 0 ≡ list_count t
unfolding is_list list_in
no_count [] e = refl
no_count (b ∷ t) e = absurd (omega arith)

-- there are no more words than bytes and one
abbrev pub parts : List ℕ → List (List ℕ)
parts t = slice_split (λ (b : ℕ). eqb b 32) t

-- the word at a place among them
next_word : (t : List ℕ) (i : ℕ) (w : List ℕ) → i < length (parts t) → w ≡ get_or (parts t) i w → drop i (parts t) ≡ w ∷ drop (i + 1) (parts t)
next_word t i w h e = rw (drop-cons (parts t) i w h, ← e, add-one)

-- ---- the count's turns

-- so many words are numbers
pub record Counting (t : List ℕ) (count : ℕ) : Type 0 where
  pub within : count ≤ length (parts t)
  pub sound : is_list t ≡ are_numbers (drop count (parts t))

pub counting_starts : (t : List ℕ) → (length t ≡ 0 → ⊥) → Counting t 0
counting_starts t some = record { within = omega arith; sound = some_list t some ∙ rw (words_are t) refl }

module _ (t : List ℕ) (count : ℕ) (s : Counting t count) where
  pub counting_ends : (length t ≡ 0 → ⊥) → count ≡ length (parts t) → Some count ≡ list_count t
  unfolding are_numbers
  counting_ends some h =
      let over : drop count (parts t) ≡ [] = drop_of_length-le (parts t) (omega arith) in
      let all : is_list t ≡ true = s.sound ∙ rw over refl in
      let n : length (list_in t) ≡ count = ap length (some_numbers t some) ∙ length-map (words t) value_of ∙ ap length (words_are t) ∙ sym h in
      rw (all, n)

  -- the next word
  module _ (w : List ℕ) (h : count < length (parts t)) (e : w ≡ get_or (parts t) count w) where
    pub counting_stops : plain_number w ≡ None → None ≡ list_count t
    unfolding are_numbers
    counting_stops k = go (is_plain_number w) refl
      where
        go : (q : Bool) → is_plain_number w ≡ q → None ≡ list_count t
        go true p = let z : ◌≡◌ {A = Option ℕ} (Some (value_of w)) None = rw p at k in absurd cc
        go false p = let bad : is_list t ≡ false = s.sound ∙ rw (next_word t count w h e, p) refl in rw bad

    pub counting_goes_on : (n : ℕ) → plain_number w ≡ Some n → Counting t (count + 1)
    unfolding are_numbers
    counting_goes_on n k = go (is_plain_number w) refl
      where
        go : (q : Bool) → is_plain_number w ≡ q → Counting t (count + 1)
        go true p = record { within = omega arith; sound = s.sound ∙ rw (next_word t count w h e, p) refl }
        go false p = let z : ◌≡◌ {A = Option ℕ} None (Some n) = rw p at k in absurd cc

-- ---- one number put into a slice

pub put_one : (old : List ℕ) (at tile : ℕ) → at < length old → Put old at (tile ∷ []) (at + 1) (set old at tile)
unfolding written
put_one old at tile h =
    let one : min 1 (length old - at) ≡ 1 = omega arith in
    record { place = omega arith; slice = rw (one, add-one) (set_split old at tile h ∙ sym (append_snoc (take at old) tile (drop (suc at) old))) }

pub put_none : (old : List ℕ) (at tile : ℕ) → length old ≤ at → Put old at (tile ∷ []) (length old) old
put_none old at tile h = record { place = place_nowhere old at (tile ∷ []) h; slice = put_nowhere old at (tile ∷ []) h }

-- ---- the putting's turns

-- what a word is worth
pub worth_of : (w : List ℕ) → unwrap_or (plain_number w) 0 ≡ value_of w
unfolding value_of
worth_of w = go (is_plain_number w)
  where
    go : (q : Bool) → unwrap_or (cond q (Some (cond q (worth 10 0 w) 0)) None) 0 ≡ cond q (worth 10 0 w) 0
    go true = refl
    go false = refl

-- the numbers of the words from a place on will end the list
abbrev pub Listing : (t old : List ℕ) → (at i : ℕ) → (out : List ℕ) → (next : ℕ) → Type 0
Listing t old at i out next = Ending old at (list_in t) (map value_of (drop i (parts t))) out next

module _ (t old : List ℕ) (at : ℕ) where
  pub listing_starts : (length t ≡ 0 → ⊥) → (next : ℕ) → next ≡ min at (length old) → Listing t old at 0 old next
  listing_starts some next e = rw (← words_are t, ← some_numbers t some) (starts_anywhere (list_in t) e)

  pub listing_of_none : length t ≡ 0 → (next : ℕ) → next ≡ min at (length old) → Put old at (list_in t) next old
  listing_of_none z next e = ending_ends (starts_anywhere (list_in t) e) (no_numbers t z)

  module _ (i : ℕ) (out : List ℕ) (next : ℕ) (s : Listing t old at i out next) where
    pub listing_goes_on : (w : List ℕ) → i < length (parts t) → w ≡ get_or (parts t) i w
        → (n : ℕ) → n ≡ unwrap_or (plain_number w) 0 → {r : ℕ} {out' : List ℕ} → Put out next (n ∷ []) r out' → Listing t old at (i + 1) out' r
    listing_goes_on w h e n v q = ending_goes_on s (n ∷ []) (map value_of (drop (i + 1) (parts t))) (rw (next_word t i w h e, v, worth_of w)) q

    pub listing_ends : i ≡ length (parts t) → Put old at (list_in t) next out
    listing_ends h = let over : drop i (parts t) ≡ [] = drop_of_length-le (parts t) (omega arith) in ending_ends s (ap (map value_of) over)
