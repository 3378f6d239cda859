-- Lists one after the other and the offsets at which they begin: from offsets and numbers to the lists, and back. Assumes nothing.
use Prim.Native.Nat.{ℕ, zero, suc, ◌+◌, ◌-◌, ◌≤◌, ◌<◌}
use mathlib.Core.Path.{◌≡◌, refl, sym, ◌∙◌, ap}
use mathlib.Core.Bool.{true, ◌&&◌}
use mathlib.Core.List.{List, [], ◌∷◌, ◌++◌, append_assoc}
use native.Mathlib.Nat.{zero-add, le_refl}
use native.Mathlib.Numerals.{add-one}
use native.Mathlib.Omega.{arith}
use lib.Dec.{eqb}
use lib.ListN.{length, get_or, drop, length-append, take-append-drop, drop_of_length-le}
use lib.Seq.{drop-cons, drop-drop, drop-length, take-append_seam, drop-append_seam}
use borrow.Author.Tests.{eqb-true, eq-eqb, le-leb}
use Rattle.text_entries.specs.Entries.{part, offsets_fit, offsets_from}
use Rattle.text_entries.proofs.Bounds.{entry_starts, offset_within, length_part}
use Rattle.units.proofs.Tests.{both}
use Rattle.bay_lists.specs.Lists.{Constraints, list_of, offsets_shaped, lists}
use Rattle.sheet_cells.specs.Cells.{all_tiles, starts}
use Rattle.sheet_grammar.specs.Contents.{lists_of}

-- ---- from the lists to the offsets

starts_some : (n : ℕ) (ls : List (List ℕ)) → get_or (starts n ls) 0 0 ≡ n
unfolding starts
starts_some n [] = refl
starts_some n (l ∷ ls) = refl

-- there is one offset more than lists
pub length_starts : (n : ℕ) (ls : List (List ℕ)) → length (starts n ls) ≡ length ls + 1
unfolding starts
length_starts n [] = refl
length_starts n (l ∷ ls) = let more = length_starts (n + length l) ls in omega arith

-- the last offset is how many numbers the lists have
pub last_start : (n : ℕ) (ls : List (List ℕ)) → get_or (starts n ls) (length ls) 0 ≡ n + length (all_tiles ls)
unfolding starts all_tiles
last_start n [] = omega arith
last_start n (l ∷ ls) = let more = last_start (n + length l) ls in let sum = length-append l (all_tiles ls) in omega arith

-- the places at which lists begin have the shape of offsets
starts_fit : (end last n : ℕ) (ls : List (List ℕ)) → last ≤ n → n + length (all_tiles ls) ≤ end → offsets_from end last (starts n ls) ≡ true
unfolding starts all_tiles offsets_from
starts_fit end last n [] h k = rw (le-leb last n h, le-leb n end (omega arith))
starts_fit end last n (l ∷ ls) h k =
    let sum = length-append l (all_tiles ls) in
    let fits : n ≤ end = omega arith in
    rw (le-leb last n h, le-leb n end fits) (starts_fit end n (n + length l) ls (omega arith) (omega arith))

pub starts_shaped : (ls : List (List ℕ)) → offsets_shaped (length ls) (lists (starts 0 ls) (all_tiles ls)) ≡ true
starts_shaped ls =
    rw (
      eq-eqb (length (starts 0 ls)) (length ls + 1) (length_starts 0 ls),
      eq-eqb (get_or (starts 0 ls) 0 0) 0 (starts_some 0 ls),
      starts_fit (length (all_tiles ls)) 0 0 ls (le_refl 0) (omega arith),
      eq-eqb (get_or (starts 0 ls) (length ls) 0) (length (all_tiles ls)) (last_start 0 ls ∙ zero-add (length (all_tiles ls))),
    )

-- what stands between the offsets of a list is the list, numbers in front or not
list_between : (before : List ℕ) (ls : List (List ℕ)) (i : ℕ) → i < length ls
    → part (before ++ all_tiles ls) (get_or (starts (length before) ls) i 0) (get_or (starts (length before) ls) (suc i) 0) ≡ get_or ls i []
unfolding starts all_tiles
list_between before [] i h = absurd (omega arith)
list_between before (l ∷ ls) zero h =
    let long : length before + length l - length before ≡ length l = omega arith in
    let tail = take-append_seam l (all_tiles ls) in
    rw (starts_some (length before + length l) ls, long, drop-append_seam before (l ++ all_tiles ls)) tail
list_between before (l ∷ ls) (suc i) h =
    rw (append_assoc before l (all_tiles ls), length-append before l) at (list_between (before ++ l) ls i (omega arith))

-- the list of a bay, by the offsets and numbers of some lists, is the bay's list among them
pub list_of_starts : (ls : List (List ℕ)) (bay : ℕ) → bay < length ls → list_of (lists (starts 0 ls) (all_tiles ls)) bay ≡ get_or ls bay []
list_of_starts ls bay h = rw (add-one bay) (list_between [] ls bay h)

-- ---- from the offsets to the lists

-- offsets of the right shape for n bays
record Shaped (n : ℕ) (offsets tiles : List ℕ) : Type 0 where
  many : length offsets ≡ n + 1
  first : get_or offsets 0 0 ≡ 0
  fit : offsets_fit (length tiles) offsets ≡ true
  end : get_or offsets n 0 ≡ length tiles

shaped : (n : ℕ) (offsets tiles : List ℕ) → offsets_shaped n (lists offsets tiles) ≡ true → Shaped n offsets tiles
shaped n offsets tiles e =
    let rest = eqb (get_or offsets n 0) (length tiles) in
    let a = both (eqb (length offsets) (n + 1)) (eqb (get_or offsets 0 0) 0 && (offsets_fit (length tiles) offsets && rest)) e in
    let b = both (eqb (get_or offsets 0 0) 0) (offsets_fit (length tiles) offsets && rest) a.1 in
    let c = both (offsets_fit (length tiles) offsets) rest b.1 in
    record {
      many = eqb-true (length offsets) (n + 1) a.0;
      first = eqb-true (get_or offsets 0 0) 0 b.0;
      fit = c.0;
      end = eqb-true (get_or offsets n 0) (length tiles) c.1;
    }

module _ (n : ℕ) (offsets tiles : List ℕ) (s : Shaped n offsets tiles) where
  abbrev c : Constraints
  c = lists offsets tiles

  abbrev offset : ℕ → ℕ
  offset bay = get_or offsets bay 0

  many_offsets : length offsets ≡ n + 1
  many_offsets = s.many

  rises : (bay : ℕ) → bay < n → (offset bay ≤ offset (bay + 1)) × (offset (bay + 1) ≤ length tiles)
  rises bay h =
      let long = many_offsets in
      (entry_starts (length tiles) offsets bay s.fit (omega arith), offset_within (length tiles) offsets (bay + 1) s.fit (omega arith))

  next_offset : (bay : ℕ) → bay < n → offset bay + length (list_of c bay) ≡ offset (bay + 1)
  next_offset bay h =
      let r = rises bay h in
      let long = length_part tiles (offset bay) (offset (bay + 1)) r.0 r.1 in
      omega arith

  starts_from : (k bay : ℕ) → bay + k ≡ n → starts (offset bay) (lists_of c bay k) ≡ drop bay offsets
  unfolding starts lists_of
  starts_from zero bay e =
      let long = many_offsets in
      let at : bay < length offsets = omega arith in
      let over : length offsets ≤ suc bay = omega arith in
      sym (drop-cons offsets bay 0 at ∙ ap (λ (l : List ℕ). offset bay ∷ l) (drop_of_length-le offsets over))
  starts_from (suc k) bay e =
      let long = many_offsets in
      let at : bay < length offsets = omega arith in
      let below : bay < n = omega arith in
      let more : bay + 1 + k ≡ n = omega arith in
      ap (λ (o : ℕ). offset bay ∷ starts o (lists_of c (bay + 1) k)) (next_offset bay below)
      ∙ ap (λ (l : List ℕ). offset bay ∷ l) (starts_from k (bay + 1) more ∙ ap (λ (m : ℕ). drop m offsets) (add-one bay))
      ∙ sym (drop-cons offsets bay 0 at)

  tiles_from : (k bay : ℕ) → bay + k ≡ n → all_tiles (lists_of c bay k) ≡ drop (offset bay) tiles
  unfolding all_tiles lists_of
  tiles_from zero bay e =
      let here : bay ≡ n = omega arith in
      let all : offset bay ≡ length tiles = ap offset here ∙ s.end in
      sym (ap (λ (m : ℕ). drop m tiles) all ∙ drop-length tiles)
  tiles_from (suc k) bay e =
      let below : bay < n = omega arith in
      let more : bay + 1 + k ≡ n = omega arith in
      let r = rises bay below in
      let up : offset bay + (offset (bay + 1) - offset bay) ≡ offset (bay + 1) = omega arith in
      ap (λ (l : List ℕ). list_of c bay ++ l)
      (tiles_from k (bay + 1) more ∙ ap (λ (m : ℕ). drop m tiles) (sym up) ∙ sym (drop-drop (offset (bay + 1) - offset bay) (offset bay) tiles))
      ∙ take-append-drop (offset (bay + 1) - offset bay) (drop (offset bay) tiles)

module _ (n : ℕ) (offsets tiles : List ℕ) (e : offsets_shaped n (lists offsets tiles) ≡ true) where
  -- the offsets of the lists of the bays are the offsets, and their numbers are the numbers
  pub same_offsets : starts 0 (lists_of (lists offsets tiles) 0 n) ≡ offsets
  same_offsets =
      let s = shaped n offsets tiles e in
      ap (λ (o : ℕ). starts o (lists_of (lists offsets tiles) 0 n)) (sym s.first) ∙ starts_from n offsets tiles s n 0 (zero-add n)

  pub same_tiles : all_tiles (lists_of (lists offsets tiles) 0 n) ≡ tiles
  same_tiles = let s = shaped n offsets tiles e in tiles_from n offsets tiles s n 0 (zero-add n) ∙ ap (λ (o : ℕ). drop o tiles) s.first
