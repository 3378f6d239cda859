-- Laws of writing a sheet's lists: the turns of the loop over its fields. Assumes nothing.
use Prim.Native.Nat.{ℕ, suc, ◌+◌, ◌-◌, ◌≤◌, ◌<◌, min}
use mathlib.Core.Bool.{true, ◌&&◌}
use mathlib.Core.List.{List, [], ◌∷◌, ◌++◌, append_assoc}
use mathlib.Core.Path.{◌≡◌, refl, sym, ap, ◌∙◌}
use native.Mathlib.Nat.{sub-zero, zero-add}
use native.Mathlib.Numerals.{add-one}
use native.Mathlib.Omega.{arith}
use lib.ListN.{length, take, drop, set, length-set, drop_of_length-le}
use lib.Seq.{take-suc-set, set_split, take-length}
use Rattle.units.proofs.Tests.{and_left, and_right}
use Rattle.text_put.specs.Puts.{Put, written}
use Rattle.text_put.proofs.Putting.{Ending, ending_starts, ending_goes_on, ending_ends, put_as, put_long}
use Rattle.sheet_fields.specs.Fields.{field, raw, content, after, field_at}
use Rattle.sheet_fields.specs.Answers.{places}
use Rattle.sheet_fields.specs.declared.Field.{Field}
use Rattle.sheet_fields.proofs.Bounds.{field_at_within, after_at, raw_at}
use Rattle.sheet_number_lists.specs.NumberLists.{is_list, list_in}
use Rattle.sheet_cells.specs.Cells.{is_cell, cells, all_tiles, starts, front}
use Rattle.sheet_cells.specs.Checks.{count_in, are_cells}
use Rattle.sheet_cells.proofs.Quotes.{content_list, content_raw}
use Rattle.sheet_cells.proofs.Counts.{count_suc}

-- what the bytes between a cell's places are worth
cell_list : (text : List ℕ) (at : ℕ) (f : Field) → f ≡ places (field_at text at) → is_cell (drop at text) ≡ true
    → list_in (take (f.to - f.from) (drop f.from text)) ≡ list_in (content (drop at text))
unfolding is_cell
cell_list text at f e c =
    let t = drop at text in
    let l : is_list (raw t) ≡ true = sym (content_list t) ∙ and_right (field t).sound (is_list (content t)) c in
    rw (e, raw_at text at, content_raw t l)

-- all numbers in front of what the slice held
written_front : (old all : List ℕ) → length all ≤ length old → written old 0 all ≡ front all old
unfolding written
written_front old all h =
    let n : min (length all) (length old - 0) ≡ length all = omega arith in
    rw (n, take-length all, zero-add (length all))

-- the lists of the fields before `bay` are written: the others begin at `at`, and their text at `next`
pub record Filling (bays : ℕ) (text old offsets tiles : List ℕ) (bay next at : ℕ) : Type 0 where
  pub within : bay ≤ bays
  pub inside : next ≤ length text
  pub sound : are_cells (bays - bay) (drop next text) ≡ true
  pub long : length offsets ≡ bays + 1
  pub room : at + count_in (bays - bay) (drop next text) ≤ length tiles
  pub begun : take bay offsets ++ starts at (cells (bays - bay) (drop next text)) ≡ starts 0 (cells bays text)
  pub put : Ending old 0 (all_tiles (cells bays text)) (all_tiles (cells (bays - bay) (drop next text))) tiles at

module _ (bays : ℕ) (text old : List ℕ) where
  pub filling_starts : (offsets : List ℕ) → are_cells bays text ≡ true → length offsets ≡ bays + 1 → count_in bays text ≤ length old → Filling bays text old offsets old 0 0 0
  filling_starts offsets c l r =
      record {
        within = omega arith;
        inside = omega arith;
        sound = rw (sub-zero bays) c;
        long = l;
        room = rw (sub-zero bays) (omega arith);
        begun = rw (sub-zero bays) refl;
        put = rw (sub-zero bays) (ending_starts (all_tiles (cells bays text)) (omega arith));
      }

  module _ (offsets tiles : List ℕ) (bay next at : ℕ) (s : Filling bays text old offsets tiles bay next at) where
    module _ (more : bay < bays) (f : Field) (e : f ≡ places (field_at text next)) where
      abbrev left : ℕ
      left = bays - (bay + 1)

      one_more : bays - bay ≡ suc left
      one_more = omega arith

      abbrev here : List ℕ
      here = drop next text

      cells_here : is_cell here && are_cells left (after here) ≡ true
      unfolding are_cells
      cells_here = rw one_more at s.sound

      abbrev list : List ℕ
      list = list_in (content here)

      rest : drop f.next text ≡ after here
      rest = rw e (sym (after_at text next))

      pub filling_goes_on : (raw : List ℕ) → raw ≡ take (f.to - f.from) (drop f.from text) → (r : ℕ) (tiles' : List ℕ) → Put tiles at (list_in raw) r tiles'
          → Filling bays text old (set offsets bay at) tiles' (bay + 1) f.next r
      unfolding cells all_tiles starts
      filling_goes_on raw k₀ r tiles' p =
          let l = s.long in
          let is_cell_holds = and_left (is_cell here) (are_cells left (after here)) cells_here in
          let q : Put tiles at list r tiles' = put_as (ap list_in k₀ ∙ cell_list text next f e is_cell_holds) p in
          let fits : at + (length list + count_in left (after here)) ≤ length tiles = rw (one_more, count_suc left here) at s.room in
          let place : r ≡ at + length list = let k = q.place in omega arith in
          let same : length tiles' ≡ length tiles = put_long q in
          let taken : take (bay + 1) (set offsets bay at) ≡ take bay offsets ++ (at ∷ []) = rw (add-one bay) (take-suc-set offsets bay at (omega arith)) in
          record {
            within = omega arith;
            inside = rw e (field_at_within text next s.inside).ends;
            sound = rw rest (and_right (is_cell here) (are_cells left (after here)) cells_here);
            long = length-set offsets bay at ∙ l;
            room = rw rest (omega arith);
            begun = rw (taken, rest, place, append_assoc (take bay offsets) (at ∷ []) (starts (at + length list) (cells left (after here)))) (rw one_more at s.begun);
            put = rw rest (ending_goes_on (rw one_more at s.put) list (all_tiles (cells left (after here))) refl q);
          }

    module _ (k : bays ≤ bay) where
      all_in : bay ≡ bays
      all_in = let w = s.within in omega arith

      none_left : bays - bay ≡ 0
      none_left = omega arith

      pub offsets_end : set offsets bays at ≡ starts 0 (cells bays text)
      unfolding cells starts
      offsets_end =
          let l = s.long in
          let nothing : drop (suc bays) offsets ≡ [] = (let short : length offsets ≤ suc bays = omega arith in drop_of_length-le offsets short) in
          set_split offsets bays at (omega arith) ∙ rw nothing (rw (none_left, all_in) at s.begun)

      pub tiles_end : count_in bays text ≤ length old → tiles ≡ front (all_tiles (cells bays text)) old
      unfolding cells all_tiles count_in
      tiles_end h = (ending_ends (rw none_left at s.put) refl).slice ∙ written_front old (all_tiles (cells bays text)) h
