-- Laws of a text that is put into a slice: the turns of the copy, that two texts put one after the other are their concatenation, and a text that is put part by part. Assumes nothing.
use Prim.Native.Nat.{ℕ, ◌+◌, ◌-◌, ◌≤◌, ◌<◌, min}
use mathlib.Core.Bool.{Bool, true, false}
use mathlib.Core.List.{List, [], ◌++◌, append_assoc, append-nil, flat_map}
use mathlib.Core.Path.{◌≡◌, refl, sym, ap, ◌∙◌}
use native.Mathlib.Nat.{add_assoc}
use native.Mathlib.Numerals.{add-one}
use native.Mathlib.Omega.{arith}
use borrow.Author.Tests.{leb-true, leb-false}
use lib.Dec.{leb}
use borrow.Rule.Slice.PartMut.{put_mid}
use Rattle.std.proofs.lemmas.Slice.{put_mid-paste}
use lib.ListN.{length, get_or, take, drop, length-append, drop_of_length-le}
use lib.Seq.{paste, paste-zero, length-paste, take-paste, drop-paste, drop-cons, drop-drop, take-length, take_all, length-take-le, take-append-add, take-append-le}
use Rattle.text_put.specs.Puts.{written, place_after, Put}

-- no place in the slice: nothing is written
module _ (out : List ℕ) (at : ℕ) (text : List ℕ) (h : length out ≤ at) where
  pub put_nowhere : out ≡ written out at text
  unfolding written
  put_nowhere = let none : min (length text) (length out - at) ≡ 0 = omega arith in rw none (paste-zero out at text)

  pub place_nowhere : length out ≡ place_after out at text
  place_nowhere = omega arith

pub length_written : (out : List ℕ) (at : ℕ) (text : List ℕ) → length (written out at text) ≡ length out
unfolding written
length_written out at text = go (leb (length out) at) refl
  where
    go : (t : Bool) → leb (length out) at ≡ t → length (paste out at text (min (length text) (length out - at))) ≡ length out
    go true e = ap length (sym (put_nowhere out at text (leb-true (length out) at e)))
    go false e = let h = leb-false (length out) at e in length-paste out at text (min (length text) (length out - at)) (omega arith) (omega arith)

-- ---- the copy

module _ (old : List ℕ) (at : ℕ) (text : List ℕ) (room : ℕ) (e : room ≡ min (length text) (length old - at)) where
  pub copied : (part : List ℕ) → part ≡ take room text → put_mid at (at + room - at) old part ≡ written old at text
  unfolding written
  copied part same =
      let fits : room ≤ length text = omega arith in
      let all : room ≡ length (take room text) = sym (length-take-le room text fits) in
      let count : room ≡ at + room - at = omega arith in
      let front : take room (take room text) ≡ take room text = take_all room (take room text) (omega arith) in
      let pasted : paste old at (take room text) room ≡ paste old at text room = rw front in
      put_mid-paste at (at + room - at) old part (take room text) room same count all ∙ pasted ∙ ap (paste old at text) e

  pub place_copied : at < length old → at + room ≡ place_after old at text
  place_copied h = omega arith

-- ---- one text after the other

module _ (out : List ℕ) (at : ℕ) (a b : List ℕ) where
  pub place_place : place_after (written out at a) (place_after out at a) b ≡ place_after out at (a ++ b)
  place_place = omega (arith, length_written out at a, length-append a b)

  -- the first text has room
  both_fit : (m : ℕ) → at ≤ length out → paste (paste out at a (length a)) (at + length a) b m ≡ paste out at (a ++ b) (length a + m)
  both_fit m h =
      let n = length a in
      let front = take-paste out at a n h (omega arith) in
      let back : drop (at + n + m) (paste out at a n) ≡ drop (at + n + m) out =
      sym (drop-drop m (at + n) (paste out at a n)) ∙ ap (drop m) (drop-paste out at a n h (omega arith)) ∙ drop-drop m (at + n) out in
      rw (front, back, take-length a, take-append-add a b m, ← add_assoc at n m, ← append_assoc (take at out) a (take m b))

  after_fit : at + length a ≤ length out → written (written out at a) (place_after out at a) b ≡ written out at (a ++ b)
  unfolding written
  after_fit h =
      let all : min (length a) (length out - at) ≡ length a = omega arith in
      let long = length-paste out at a (length a) h (omega arith) in
      let place : min (length out) (at + length a) ≡ at + length a = omega arith in
      let m = min (length b) (length out - (at + length a)) in
      let sum : min (length (a ++ b)) (length out - at) ≡ length a + m = omega (arith, length-append a b) in
      rw (all, place, long, sum) (both_fit m (omega arith))

  -- the first text is cut off
  past : length out < at + length a → length (written out at a) ≤ place_after out at a
  past h = omega (arith, length_written out at a)

  cut : length out < at + length a → written out at a ≡ written out at (a ++ b)
  unfolding written
  cut h =
      let room = length out - at in
      let one : min (length a) room ≡ room = omega arith in
      let both : min (length (a ++ b)) room ≡ room = omega (arith, length-append a b) in
      let fits : room ≤ length a = omega arith in
      rw (one, both, take-append-le room a b fits)

  after_cut : length out < at + length a → written (written out at a) (place_after out at a) b ≡ written out at (a ++ b)
  after_cut h = sym (put_nowhere (written out at a) (place_after out at a) b (past h)) ∙ cut h

  pub written_written : written (written out at a) (place_after out at a) b ≡ written out at (a ++ b)
  written_written = go (leb (at + length a) (length out)) refl
    where
      go : (t : Bool) → leb (at + length a) (length out) ≡ t → written (written out at a) (place_after out at a) b ≡ written out at (a ++ b)
      go true e = after_fit (leb-true (at + length a) (length out) e)
      go false e = after_cut (leb-false (at + length a) (length out) e)

-- ---- one call after the other

pub put_as : {old : List ℕ} {at : ℕ} {a b : List ℕ} {r : ℕ} {out : List ℕ} → a ≡ b → Put old at a r out → Put old at b r out
put_as {old} {at} e p = record { place = p.place ∙ ap (place_after old at) e; slice = p.slice ∙ ap (written old at) e }

pub then_put : {old : List ℕ} {at : ℕ} {a b : List ℕ} {r₁ : ℕ} {out₁ : List ℕ} {r₂ : ℕ} {out₂ : List ℕ}
    → Put old at a r₁ out₁ → Put out₁ r₁ b r₂ out₂ → Put old at (a ++ b) r₂ out₂
then_put {old} {at} {a} {b} p q =
    record {
      place = q.place ∙ rw (p.place, p.slice) (place_place old at a b);
      slice = q.slice ∙ rw (p.place, p.slice) (written_written old at a b);
    }

pub put_long : {old : List ℕ} {at : ℕ} {a : List ℕ} {r : ℕ} {out : List ℕ} → Put old at a r out → length out ≡ length old
put_long {old} {at} {a} p = rw p.slice (length_written old at a)

pub put_within : {old : List ℕ} {at : ℕ} {a : List ℕ} {r : ℕ} {out : List ℕ} → Put old at a r out → r ≤ length out
put_within p = omega (arith, p.place, put_long p)

-- ---- a text that is put part by part

-- what is left of the whole will end it
pub record Ending (old : List ℕ) (at : ℕ) (whole left out : List ℕ) (next : ℕ) : Type 0 where
  pub long : length out ≡ length old
  pub within : next ≤ length out
  pub place : place_after out next left ≡ place_after old at whole
  pub slice : written out next left ≡ written old at whole

pub ending_starts : {old : List ℕ} {at : ℕ} (whole : List ℕ) → at ≤ length old → Ending old at whole whole old at
ending_starts whole h = record { long = refl; within = h; place = refl; slice = refl }

-- putting starts at a place, or at the slice's end where the place lies past it
pub starts_anywhere : {old : List ℕ} {at : ℕ} (whole : List ℕ) {next : ℕ} → next ≡ min at (length old) → Ending old at whole whole old next
starts_anywhere {old} {at} whole {next} e = record { long = refl; within = omega arith; place = omega arith; slice = go (leb at (length old)) refl }
  where
    go : (t : Bool) → leb at (length old) ≡ t → written old next whole ≡ written old at whole
    go true h = let k = leb-true at (length old) h in let same : next ≡ at = omega arith in rw same
    go false h =
        let k = leb-false at (length old) h in
        let last : length old ≤ next = omega arith in
        let past : length old ≤ at = omega arith in
        sym (put_nowhere old next whole last) ∙ put_nowhere old at whole past

module _ {old : List ℕ} {at : ℕ} {whole left out : List ℕ} {next : ℕ} (s : Ending old at whole left out next) where
  pub ending_goes_on : (a more : List ℕ) → left ≡ a ++ more → {r : ℕ} {out' : List ℕ} → Put out next a r out' → Ending old at whole more out' r
  ending_goes_on a more e p =
      record {
        long = put_long p ∙ s.long;
        within = put_within p;
        place = rw (p.place, p.slice) (place_place out next a more) ∙ ap (place_after out next) (sym e) ∙ s.place;
        slice = rw (p.place, p.slice) (written_written out next a more) ∙ ap (written out next) (sym e) ∙ s.slice;
      }

  pub ending_ends : left ≡ [] → Put old at whole next out
  unfolding written
  ending_ends e =
      let w = s.within in
      let here : place_after out next left ≡ next = rw e (omega arith) in
      let none : min 0 (length out - next) ≡ 0 = omega arith in
      let same : written out next left ≡ out = rw (e, none) (sym (paste-zero out next [])) in
      record { place = sym here ∙ s.place; slice = sym same ∙ s.slice }

-- the last part ends the text
pub last_part : {old : List ℕ} {at : ℕ} {whole left out : List ℕ} {next : ℕ} → Ending old at whole left out next → (a : List ℕ) → left ≡ a
    → {r : ℕ} {out' : List ℕ} → Put out next a r out' → Put old at whole r out'
last_part s a e p = ending_ends (ending_goes_on s a [] (e ∙ sym (append-nil a)) p) refl

-- ---- a text of which each byte gives a text

module _ (each : ℕ → List ℕ) (text : List ℕ) (i : ℕ) where
  next_byte : i < length text → flat_map each (drop i text) ≡ each (get_or text i 0) ++ flat_map each (drop (i + 1) text)
  unfolding flat_map
  next_byte h = rw (drop-cons text i 0 h, add-one i)

  no_byte : length text ≤ i → flat_map each (drop i text) ≡ []
  unfolding flat_map
  no_byte h = rw (drop_of_length-le text h)

  module _ {old : List ℕ} {at : ℕ} {whole out : List ℕ} {next : ℕ} (s : Ending old at whole (flat_map each (drop i text)) out next) where
    pub byte_goes_on : i < length text → {r : ℕ} {out' : List ℕ} → Put out next (each (get_or text i 0)) r out'
        → Ending old at whole (flat_map each (drop (i + 1) text)) out' r
    byte_goes_on h p = ending_goes_on s (each (get_or text i 0)) (flat_map each (drop (i + 1) text)) (next_byte h) p

    pub bytes_end : length text ≤ i → Put old at whole next out
    bytes_end h = ending_ends s (no_byte h)
