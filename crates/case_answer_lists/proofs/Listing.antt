-- Laws of a list's items and of a text's bytes, one after the other. Assumes nothing.
use Prim.Native.Nat.{ℕ, zero, suc, ◌+◌, ◌≤◌, ◌<◌}
use mathlib.Core.List.{List, [], ◌∷◌, ◌++◌}
use mathlib.Core.Path.{◌≡◌, refl}
use native.Mathlib.Numerals.{add-one}
use native.Mathlib.Omega.{arith}
use lib.ListN.{length, get_or, drop, drop_of_length-le}
use lib.Seq.{drop-cons}
use Rattle.text_put.specs.Puts.{Put}
use Rattle.text_put.proofs.Putting.{then_put, put_within, Ending, ending_starts, ending_goes_on, ending_ends}
use Rattle.case_answer_lists.specs.Lists.{item, listed}
use Rattle.case_answer_lists.specs.Coded.{coded_byte, coded}

-- the item at place 0 has no comma, any other has one
pub first_item : (i : ℕ) (text : List ℕ) → i ≡ 0 → text ≡ item i text
unfolding item
first_item zero text e = refl
first_item (suc i) text e = absurd (omega arith)

pub later_item : (i : ℕ) (text : List ℕ) → (i ≡ 0 → ⊥) → (44 ∷ []) ++ text ≡ item i text
unfolding item
later_item zero text e = absurd (e refl)
later_item (suc i) text e = refl

-- ---- a list that is put item by item, whatever its items are

-- the items before place i have been put, and those from it on end the list
pub record Listing {A : Type 0} (text : A → List ℕ) (xs : List A) (old : List ℕ) (at i : ℕ) (out : List ℕ) (next : ℕ) : Type 0 where
  pub ending : Ending old at (listed text 0 xs) (listed text i (drop i xs)) out next

module _ {A : Type 0} {text : A → List ℕ} {xs : List A} {old word : List ℕ} {at next : ℕ} {out : List ℕ} where
  pub listing_starts : Put old at word next out → Listing text xs out next 0 out next
  listing_starts p = record { ending = ending_starts (listed text 0 xs) (put_within p) }

module _ {A : Type 0} {text : A → List ℕ} {xs : List A} {old : List ℕ} {at i : ℕ} {out : List ℕ} {next : ℕ} (s : Listing text xs old at i out next) where
  pub listing_goes_on : i < length xs → (d : A) {r : ℕ} {out' : List ℕ} → Put out next (item i (text (get_or xs i d))) r out' → Listing text xs old at (i + 1) out' r
  unfolding listed
  listing_goes_on h d p =
      let split : listed text i (drop i xs) ≡ item i (text (get_or xs i d)) ++ listed text (i + 1) (drop (i + 1) xs) = rw (drop-cons xs i d h, add-one i) in
      record { ending = ending_goes_on s.ending (item i (text (get_or xs i d))) (listed text (i + 1) (drop (i + 1) xs)) split p }

  -- the word before the list and the list
  pub listing_ends : length xs ≤ i → {first word : List ℕ} {from : ℕ} → Put first from word at old → Put first from (word ++ listed text 0 xs) next out
  unfolding listed
  listing_ends h p = then_put p (ending_ends s.ending (rw (drop_of_length-le xs h)))

-- ---- a text that is put byte by byte

module _ (xs : List ℕ) (i : ℕ) where
  pub coded_next : i < length xs → coded (drop i xs) ≡ coded_byte (get_or xs i 0) ++ coded (drop (i + 1) xs)
  unfolding coded
  coded_next h = rw (drop-cons xs i 0 h, add-one i)

  pub coded_end : length xs ≤ i → coded (drop i xs) ≡ []
  unfolding coded
  coded_end h = rw (drop_of_length-le xs h)
