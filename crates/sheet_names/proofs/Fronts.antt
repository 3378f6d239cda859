-- After entries were appended, the fronts of the text, the offsets and the flags are those before followed by what was appended. Assumes nothing.
use Prim.Native.Nat.{ℕ, ◌+◌, ◌-◌, ◌≤◌, ◌<◌, min}
use mathlib.Core.Bool.{Bool, true, false}
use mathlib.Core.List.{List, ◌++◌, map, flatten}
use mathlib.Core.Path.{◌≡◌, refl, sym, ap, ◌∙◌}
use native.Mathlib.Omega.{arith}
use borrow.Author.Tests.{leb-true, leb-false}
use lib.Dec.{leb}
use lib.ListN.{length, take, drop, length-append, length-map}
use lib.Seq.{sets, sets-eq, length-take-le, take_all, take_at, take-length, take-paste}
use Rattle.text_put.specs.Puts.{Put, written}
use Rattle.sheet_names.specs.Appended.{flag_of, ends, Appended}
use Rattle.sheet_names.specs.declared.Laid.{Laid}
use Rattle.sheet_names.proofs.Appending.{length_ends}

-- ---- one list

-- no more than all of a list is taken
take_least : (l : List ℕ) (k : ℕ) → take (min (length l) k) l ≡ take k l
take_least l k = go (leb (length l) k) refl
  where
    go : (t : Bool) → leb (length l) k ≡ t → take (min (length l) k) l ≡ take k l
    go true e =
        let h = leb-true (length l) k e in
        let all : min (length l) k ≡ length l = omega arith in
        rw all (take-length l ∙ sym (take_all k l h))
    go false e =
        let h = leb-false (length l) k e in
        let some : min (length l) k ≡ k = omega arith in
        ap (λ (n : ℕ). take n l) some

-- of a list with values stored from a place on, the front up to behind them
pub stored_front : (l : List ℕ) (i j : ℕ) (vs : List ℕ) → j ≡ i + length vs → i + length vs ≤ length l → take j (sets l i vs) ≡ take i l ++ vs
stored_front l i j vs e h =
    let front : length (take i l) ≡ i = length-take-le i l (omega arith) in
    let long : length (take i l ++ vs) ≡ j = omega (arith, length-append (take i l) vs) in
    ap (take j) (sets-eq vs l i h) ∙ take_at (take i l ++ vs) (drop (i + length vs) l) j long

-- of a slice that a text was put into, the front up to the next place
pub put_front : {old : List ℕ} {at : ℕ} {text : List ℕ} {next : ℕ} {out : List ℕ} → Put old at text next out → at ≤ length old
    → take next out ≡ take at old ++ take (length old - at) text
unfolding written
put_front {old} {at} {text} {next} p h =
    let n = min (length text) (length old - at) in
    let behind : next ≡ at + n = p.place ∙ omega arith in
    rw (p.slice, behind) (take-paste old at text n h (omega arith)) ∙ ap (λ (l : List ℕ). take at old ++ l) (take_least text (length old - at))

-- ---- the fronts of what was appended to

module _ {out offsets present : List ℕ} {start : Laid} {entries : List (List ℕ)} {stop : Laid} {out' offsets' present' : List ℕ}
    (a : Appended out offsets present start entries stop out' offsets' present') where
  pub front_text : start.bytes ≤ length out → take stop.bytes out' ≡ take start.bytes out ++ take (length out - start.bytes) (flatten entries)
  front_text h = put_front a.laid h

  pub front_offsets : start.entries + length entries < length offsets → take (stop.entries + 1) offsets' ≡ take (start.entries + 1) offsets ++ ends (length out) start.bytes entries
  front_offsets h =
      let many = length_ends (length out) start.bytes entries in
      let behind : stop.entries + 1 ≡ start.entries + 1 + length (ends (length out) start.bytes entries) = let k = a.counted in omega arith in
      rw a.ended (stored_front offsets (start.entries + 1) (stop.entries + 1) (ends (length out) start.bytes entries) behind (omega arith))

  pub front_present : start.entries + length entries ≤ length present → take stop.entries present' ≡ take start.entries present ++ map flag_of entries
  front_present h =
      let many = length-map entries flag_of in
      let behind : stop.entries ≡ start.entries + length (map flag_of entries) = let k = a.counted in omega arith in
      rw a.flagged (stored_front present start.entries stop.entries (map flag_of entries) behind (omega arith))
