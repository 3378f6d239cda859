-- Laws of a slice that is filled from its front with the values of items: the turns of a loop that reads them one by one. Assumes nothing.
use Prim.Native.Nat.{ℕ, suc, ◌+◌, ◌-◌, ◌≤◌, ◌<◌}
use mathlib.Core.Bool.{Bool, true, false, cond}
use Rattle.std.proofs.Common.{Some, None}
use mathlib.Core.List.{List, [], ◌∷◌, ◌++◌, append-nil}
use mathlib.Core.Path.{◌≡◌, refl, sym, ap, ◌∙◌}
use native.Mathlib.Numerals.{add-one}
use native.Mathlib.Omega.{arith}
use borrow.Author.Tests.{le-leb, lt-leb}
use lib.ListN.{length, get_or, take, drop, set, length-append, length-set, drop_of_length-le}
use lib.Seq.{drop-cons, set_at, append_snoc, take_all, take_at}
use Rattle.case_text.specs.Places.{place_of, parts}
use Rattle.case_text.specs.Fields.{rest}
use Rattle.case_lists.specs.Lists.{items, all, values, counted, front}
use Rattle.case_text.proofs.Cuts.{part_at, none_after, more_after}
use Rattle.text_digits.proofs.Worth.{and_false}

-- n of the items ws have been read, and the ones that are left are given
pub record Filling {A : Type 0} (ok : List ℕ → Bool) (value : List ℕ → A) (ws : List (List ℕ)) (old : List A) (left : List (List ℕ)) (out : List A) (n : ℕ) : Type 0 where
  pub done : List A
  pub count : length done ≡ n
  pub within : n ≤ length old
  pub so_far : values ok value ws ≡ done ++ values ok value left
  pub sound : all ok ws ≡ all ok left
  pub many : length ws ≡ n + length left
  pub filled : out ≡ done ++ drop n old
  pub long : length out ≡ length old

module _ {A : Type 0} (ok : List ℕ → Bool) (value : List ℕ → A) (ws : List (List ℕ)) (old : List A) where
  pub filling_starts : Filling ok value ws old ws old 0
  filling_starts =
      record { done = []; count = refl; within = omega arith; so_far = refl; sound = refl; many = omega arith; filled = refl; long = refl }

  module _ (out : List A) (n : ℕ) where
    -- every item has been read
    module _ (s : Filling ok value ws old [] out n) where
      pub filling_ends : Some n ≡ counted ok ws (length old)
      unfolding counted all
      filling_ends =
          let e : length ws ≡ n = s.many ∙ omega arith in
          rw (s.sound, e, le-leb n (length old) s.within)

      pub filled_all : out ≡ front (values ok value ws) old
      unfolding front values
      filled_all =
          let d = s.done in
          let e : values ok value ws ≡ d = s.so_far ∙ append-nil d in
          let short : length d ≤ length old = let c = s.count in let w = s.within in omega arith in
          rw (e, take_all (length old) d short, s.count) s.filled

    module _ (w : List ℕ) (left : List (List ℕ)) (s : Filling ok value ws old (w ∷ left) out n) where
      -- the next item is read
      pub filling_goes_on : (v : A) → (ok w ≡ true) × (value w ≡ v) → n < length old → Filling ok value ws old left (set out n v) (n + 1)
      unfolding values all
      filling_goes_on v r h =
          let d = s.done in
          let k = r.0 in
          record {
            done = d ++ (v ∷ []);
            count = length-append d (v ∷ []) ∙ ap (λ (m : ℕ). m + 1) s.count;
            within = omega arith;
            so_far = s.so_far ∙ rw (k, r.1) (sym (append_snoc d v (values ok value left)));
            sound = s.sound ∙ rw k refl;
            many = s.many ∙ omega arith;
            filled = rw (s.filled, drop-cons old n v h, add-one) (set_at d (get_or old n v) (drop (suc n) old) v n s.count ∙ sym (append_snoc d v (drop (suc n) old)));
            long = simp length-set s.long;
          }

      -- the next item cannot be read
      pub filling_stops : ok w ≡ false → None ≡ counted ok ws (length old)
      unfolding counted all
      filling_stops k = rw (s.sound, k)

      pub filled_before : ok w ≡ false → out ≡ front (values ok value ws) old
      unfolding front values
      filled_before k =
          let d = s.done in
          let e : values ok value ws ≡ d = s.so_far ∙ rw k (append-nil d) in
          let short : length d ≤ length old = let c = s.count in let r = s.within in omega arith in
          rw (e, take_all (length old) d short, s.count) s.filled

      -- the next item has no room
      pub filling_is_full : length old ≤ n → None ≡ counted ok ws (length old)
      unfolding counted
      filling_is_full h =
          let over : length old < length ws = let m = s.many in omega arith in
          rw (lt-leb (length ws) (length old) over, and_false)

      pub filled_full : length old ≤ n → out ≡ front (values ok value ws) old
      unfolding front
      filled_full h =
          let d = s.done in
          let more = values ok value (w ∷ left) in
          let same : length d ≡ length old = let c = s.count in let r = s.within in omega arith in
          let past : length old ≤ length (d ++ more) = omega (arith, length-append d more) in
          s.filled ∙ rw (s.so_far, take_at d more (length old) same, drop_of_length-le old past, drop_of_length-le old h)

-- ---- the items of a list, from a place on

-- the loop has come to the item that starts at a place
pub record Listing {A : Type 0} (ok : List ℕ → Bool) (value : List ℕ → A) (text : List ℕ) (old : List A) (at : ℕ) (out : List A) (n : ℕ) : Type 0 where
  pub within : at ≤ length text
  pub fill : Filling ok value (items text) old (parts 44 (drop at text)) out n

pub some_items : (text : List ℕ) → (length text ≡ 0 → ⊥) → items text ≡ parts 44 text
unfolding items
some_items [] h = absurd (h refl)
some_items (x ∷ xs) h = refl

pub no_items : (text : List ℕ) → length text ≡ 0 → items text ≡ []
unfolding items
no_items [] e = refl
no_items (x ∷ xs) e = absurd (omega arith)

module _ {A : Type 0} (ok : List ℕ → Bool) (value : List ℕ → A) (text : List ℕ) (old : List A) where
  -- an empty list
  module _ (e : length text ≡ 0) where
    none : Filling ok value (items text) old [] old 0
    none = rw (← no_items text e) (filling_starts ok value (items text) old)

    pub no_item_counts : Some 0 ≡ counted ok (items text) (length old)
    no_item_counts = filling_ends ok value (items text) old old 0 none

    pub no_item_fills : old ≡ front (values ok value (items text)) old
    no_item_fills = filled_all ok value (items text) old old 0 none

  pub listing_starts : (length text ≡ 0 → ⊥) → Listing ok value text old 0 old 0
  listing_starts h = record { within = omega arith; fill = rw (← some_items text h) (filling_starts ok value (items text) old) }

  module _ (at : ℕ) (out : List A) (n : ℕ) (s : Listing ok value text old at out n) where
    module _ (e : ℕ) (p : e ≡ place_of 44 text at) where
      abbrev item : List ℕ
      item = take (e - at) (drop at text)

      here : Filling ok value (items text) old (item ∷ rest (parts 44 (drop e text))) out n
      here = rw p (rw (part_at 44 text at s.within) at s.fill)

      -- the item cannot be read
      pub listing_stops : ok item ≡ false → (None ≡ counted ok (items text) (length old)) × (out ≡ front (values ok value (items text)) old)
      listing_stops k =
          let left = rest (parts 44 (drop e text)) in
          (filling_stops ok value (items text) old out n item left here k, filled_before ok value (items text) old out n item left here k)

      -- the item is read
      module _ (v : A) (r : (ok item ≡ true) × (value item ≡ v)) (h : n < length old) where
        more : Filling ok value (items text) old (rest (parts 44 (drop e text))) (set out n v) (n + 1)
        more = filling_goes_on ok value (items text) old out n item (rest (parts 44 (drop e text))) here v r h

        pub listing_goes_on : e < length text → Listing ok value text old (e + 1) (set out n v) (n + 1)
        listing_goes_on k =
            let found : place_of 44 text at < length text = rw (← p) k in
            record {
              within = omega arith;
              fill = rw (ap (λ (m : ℕ). rest (parts 44 (drop m text))) p ∙ more_after 44 text at s.within found ∙ ap (λ (m : ℕ). parts 44 (drop (m + 1) text)) (sym p)) at more;
            }

        pub listing_ends : e ≡ length text → (Some (n + 1) ≡ counted ok (items text) (length old)) × (set out n v ≡ front (values ok value (items text)) old)
        listing_ends k =
            let last = rw (none_after 44 text e (omega arith)) at more in
            (filling_ends ok value (items text) old (set out n v) (n + 1) last, filled_all ok value (items text) old (set out n v) (n + 1) last)

    -- the item has no room
    pub listing_is_full : length old ≤ n → (None ≡ counted ok (items text) (length old)) × (out ≡ front (values ok value (items text)) old)
    listing_is_full h =
        let e = place_of 44 text at in
        let left = rest (parts 44 (drop e text)) in
        (filling_is_full ok value (items text) old out n (item e refl) left (here e refl) h, filled_full ok value (items text) old out n (item e refl) left (here e refl) h)

-- ---- what an item is read as

pub item_read : {A : Type 0} (t : Bool) {w x : A} → cond t (Some w) None ≡ Some x → (t ≡ true) × (w ≡ x)
item_read true e = (refl, cc)
item_read false e = cc

pub item_unread : {A : Type 0} (t : Bool) (w : A) → cond t (Some w) None ≡ None → t ≡ false
item_unread true w e = cc
item_unread false w e = refl
