-- Laws of entries that are appended: none, one, and some after others. Assumes nothing.
use Prim.Native.Nat.{ℕ, suc, ◌+◌, ◌-◌, ◌≤◌, min}
use mathlib.Core.List.{List, [], ◌∷◌, ◌++◌, map, map-append, flatten, append_assoc, append-nil}
use mathlib.Core.Path.{◌≡◌, refl, sym, ap, ◌∙◌}
use native.Mathlib.Nat.{add-zero}
use native.Mathlib.Omega.{arith}
use lib.ListN.{length, set, length-append, length-map}
use lib.Seq.{sets, length-sets, paste-zero}
use Rattle.text_put.specs.Puts.{Put, written}
use Rattle.text_put.proofs.Putting.{put_as, then_put, put_long}
use Rattle.sheet_fields.specs.Fields.{unquoted}
use Rattle.sheet_fields.proofs.Quotes.{unquoted_blank}
use Rattle.sheet_names.specs.Appended.{flag_of, ends, Appended}
use Rattle.sheet_names.specs.declared.Laid.{Laid}

-- ---- lists in two parts

flatten_append : (xs ys : List (List ℕ)) → flatten (xs ++ ys) ≡ flatten xs ++ flatten ys
unfolding flatten
flatten_append [] ys = refl
flatten_append (x ∷ xs) ys = rw (flatten_append xs ys) (sym (append_assoc x (flatten xs) (flatten ys)))

sets_append : (l : List ℕ) (i j : ℕ) (xs ys : List ℕ) → j ≡ i + length xs → sets l i (xs ++ ys) ≡ sets (sets l i xs) j ys
sets_append l i j [] ys e = rw (e, add-zero i)
sets_append l i j (x ∷ xs) ys e = sets_append (set l i x) (suc i) j xs ys (omega arith)

pub length_ends : (room at : ℕ) (es : List (List ℕ)) → length (ends room at es) ≡ length es
unfolding ends
length_ends room at [] = refl
length_ends room at (e ∷ es) = ap suc (length_ends room (min room (at + length e)) es)

ends_append : (room at : ℕ) (xs ys : List (List ℕ)) → at ≤ room → ends room at (xs ++ ys) ≡ ends room at xs ++ ends room (min room (at + length (flatten xs))) ys
unfolding ends flatten
ends_append room at [] ys h = let here : min room (at + 0) ≡ at = omega arith in rw here
ends_append room at (x ∷ xs) ys h =
    let to = min room (at + length x) in
    let same : min room (at + length (x ++ flatten xs)) ≡ min room (to + length (flatten xs)) = omega (arith, length-append x (flatten xs)) in
    rw same (ap (λ (l : List ℕ). to ∷ l) (ends_append room to xs ys (omega arith)))

-- ---- none, and one

module _ (out offsets present : List ℕ) (start : Laid) where
  pub append_none : start.bytes ≤ length out → Appended out offsets present start [] start out offsets present
  unfolding flatten ends written
  append_none h =
      let none : min 0 (length out - start.bytes) ≡ 0 = omega arith in
      record {
        counted = omega arith;
        laid = record { place = omega arith; slice = rw none (paste-zero out start.bytes []) };
        ended = refl;
        flagged = refl;
      }

  pub append_one : (entry : List ℕ) (f r : ℕ) (out' : List ℕ) → f ≡ flag_of entry → Put out start.bytes entry r out'
      → Appended out offsets present start (entry ∷ []) (record { entries = start.entries + 1; bytes = r }) out' (set offsets (start.entries + 1) r) (set present start.entries f)
  unfolding flatten ends
  append_one entry f r out' e p =
      record {
        counted = omega arith;
        laid = put_as (sym (append-nil entry)) p;
        ended = rw p.place;
        flagged = rw e;
      }

-- quotes that are taken off leave no blank
pub flag_unquoted : (raw : List ℕ) → flag_of raw ≡ flag_of (unquoted raw)
unfolding flag_of
flag_unquoted raw = rw (unquoted_blank raw) refl

-- ---- some after others

pub append_as : {out offsets present : List ℕ} {start : Laid} {xs ys : List (List ℕ)} {stop : Laid} {out' offsets' present' : List ℕ}
    → xs ≡ ys → Appended out offsets present start xs stop out' offsets' present' → Appended out offsets present start ys stop out' offsets' present'
append_as e a = rw (← e) a

module _ {out offsets present : List ℕ} {start : Laid} {xs : List (List ℕ)} {stop : Laid} {out' offsets' present' : List ℕ}
    (a : Appended out offsets present start xs stop out' offsets' present') where
  pub appended_out : length out' ≡ length out
  appended_out = put_long a.laid

  pub appended_offsets : length offsets' ≡ length offsets
  appended_offsets = rw a.ended (length-sets offsets (start.entries + 1) (ends (length out) start.bytes xs))

  pub appended_present : length present' ≡ length present
  appended_present = rw a.flagged (length-sets present start.entries (map flag_of xs))

  pub appended_within : stop.bytes ≤ length out'
  appended_within = let p = a.laid.place in let l = appended_out in omega arith

  pub then_append : start.bytes ≤ length out → {ys : List (List ℕ)} {end : Laid} {out'' offsets'' present'' : List ℕ}
      → Appended out' offsets' present' stop ys end out'' offsets'' present'' → Appended out offsets present start (xs ++ ys) end out'' offsets'' present''
  then_append h {ys} b =
      let at : stop.entries + 1 ≡ (start.entries + 1) + length (ends (length out) start.bytes xs) = let k = a.counted in let l = length_ends (length out) start.bytes xs in omega arith in
      let here : stop.entries ≡ start.entries + length (map flag_of xs) = let k = a.counted in let l = length-map xs flag_of in omega arith in
      record {
        counted = let k = a.counted in let l = b.counted in omega (arith, length-append xs ys);
        laid = put_as (sym (flatten_append xs ys)) (then_put a.laid b.laid);
        ended =
            b.ended ∙ rw (appended_out, a.ended, a.laid.place)
            (sym (ap (sets offsets (start.entries + 1)) (ends_append (length out) start.bytes xs ys h)
            ∙ sets_append offsets (start.entries + 1) (stop.entries + 1) (ends (length out) start.bytes xs) (ends (length out) (min (length out) (start.bytes + length (flatten xs))) ys) at));
        flagged =
            b.flagged ∙ rw a.flagged
            (sym (ap (sets present start.entries) (map-append flag_of xs ys) ∙ sets_append present start.entries stop.entries (map flag_of xs) (map flag_of ys) here));
      }
