-- What is written is a sheet of the grammar, and reading it gives the offsets and numbers again. Assumes nothing.
use Prim.Native.Nat.{ℕ, zero, suc, ◌+◌, ◌-◌, ◌*◌, ◌^◌, ◌≤◌, ◌<◌}
use mathlib.Core.Path.{◌≡◌, refl, sym, ◌∙◌, ap, subst, subst₂}
use mathlib.Core.Bool.{Bool, true, false, not, ◌&&◌}
use mathlib.Core.List.{List, [], ◌∷◌, ◌++◌, map, append_assoc, append-nil}
use native.Mathlib.Nat.{zero-mul, suc-add, zero-add, add-zero}
use native.Mathlib.Omega.{arith}
use lib.Dec.{ltb, leb}
use lib.ListN.{length, get_or, take, drop, length-take, get_or-eq_default}
use lib.Seq.{get_or-take, get_or-drop, take-append_seam}
use borrow.Author.Tests.{le-ltb, ltb-false, leb-true, leb-false, eq-eqb, not-false}
use Rattle.units.specs.Limits.{most_side, from_one_to}
use Rattle.units.specs.declared.refusal.Refusal.TheVariants.{Size, Shape, NoRoom}
use Rattle.units.specs.Refusals.{Verdict, passes, refuse_if, ◌▷◌, if_passes}
use Rattle.units.proofs.Verdicts.{first_passes, rest_passes, no_fault}
use Rattle.text_put.specs.Puts.{number_text}
use Rattle.bay_lists.specs.Lists.{Constraints, list_of, offsets_shaped, lists}
use Rattle.text_entries.specs.Entries.{part}
use Rattle.units.proofs.Tests.{both}
use Rattle.sheet_cells.specs.Cells.{place, sheet_fault, all_tiles, starts, front}
use Rattle.sheet_text.specs.Written.{gap, spaced, separator, row_text, sheet_text}
use Rattle.sheet.specs.Read.{grid_verdict, sheet_lists, tile_count, read_verdict, offsets_after, tiles_after}
use Rattle.sheet.specs.Write.{sheet_bytes, bytes_needed, write_verdict, text_after}
use Rattle.sheet_grammar.specs.AsWritten.{WrittenRecord, last_field, field_before, WrittenSheet, no_record, ended_record}
use Rattle.sheet_grammar.specs.Contents.{lists_of}
use Rattle.sheet_grammar.specs.Grammar.{NumbersText, one, another, ListText, nothing, numbers, bare, RecordText, last, comma, crlf, SheetText, none, line}
use Rattle.sheet_grammar.proofs.Numbers.{text_worth, text_is_plain}
use Rattle.sheet_grammar.proofs.Offsets.{same_offsets, same_tiles}
use Rattle.sheet_grammar.proofs.Accepted.{one_row, complete}

-- ---- a list as it is written

-- each number of a list is a u32; past the end stands 0, which is one
abbrev pub Below : List ℕ → Type 0
Below ns = (i : ℕ) → get_or ns i 0 < 2 ^ 32

-- after the first number, which place it is makes no difference
spaced_on : (i : ℕ) (ns : List ℕ) → spaced (suc i) ns ≡ spaced 1 ns
unfolding spaced gap
spaced_on i [] = refl
spaced_on i (n ∷ ns) = ap (λ (t : List ℕ). ((32 ∷ []) ++ number_text n) ++ t) (spaced_on (suc i) ns ∙ sym (spaced_on 1 ns))

pub spaced_first : (n : ℕ) (ns : List ℕ) → spaced 0 (n ∷ ns) ≡ number_text n ++ spaced 1 ns
unfolding spaced gap
spaced_first n ns = refl

pub spaced_next : (n : ℕ) (ns : List ℕ) → spaced 1 (n ∷ ns) ≡ 32 ∷ spaced 0 (n ∷ ns)
unfolding spaced gap
spaced_next n ns = ap (λ (t : List ℕ). (32 ∷ number_text n) ++ t) (spaced_on 1 ns)

pub none_spaced : spaced 1 [] ≡ []
unfolding spaced
none_spaced = refl

number_text_lem : (n : ℕ) → n < 2 ^ 32 → NumbersText (number_text n) (n ∷ [])
number_text_lem n h = subst (λ (m : ℕ). NumbersText (number_text n) (m ∷ [])) (text_worth n h) (one (number_text n) (text_is_plain n h))

numbers_text : (n : ℕ) (ns : List ℕ) → Below (n ∷ ns) → NumbersText (spaced 0 (n ∷ ns)) (n ∷ ns)
numbers_text n [] h =
    let alone : number_text n ≡ spaced 0 (n ∷ []) = sym (spaced_first n [] ∙ ap (λ (t : List ℕ). number_text n ++ t) none_spaced ∙ append-nil (number_text n)) in
    subst (λ (t : List ℕ). NumbersText t (n ∷ [])) alone (number_text_lem n (h 0))
numbers_text n (m ∷ ns) h =
    let small = h 0 in
    let more = numbers_text m ns (λ i. h (suc i)) in
    let all : number_text n ++ 32 ∷ spaced 0 (m ∷ ns) ≡ spaced 0 (n ∷ m ∷ ns) = sym (spaced_first n (m ∷ ns) ∙ ap (λ (t : List ℕ). number_text n ++ t) (spaced_next m ns)) in
    subst₂ (λ (t : List ℕ) (k : ℕ). NumbersText t (k ∷ m ∷ ns)) all (text_worth n small) (another (number_text n) (text_is_plain n small) more)

-- a list as it is written is a list of the grammar
pub list_written : (ns : List ℕ) → Below ns → ListText (spaced 0 ns) ns
unfolding spaced
list_written [] h = nothing
list_written (n ∷ ns) h = numbers (numbers_text n ns h)

-- ---- a row as it is written

module _ (c : Constraints) (small : (bay : ℕ) → Below (list_of c bay)) where
  -- the contents of the fields as they are written
  abbrev written : (bay count : ℕ) → List (List ℕ)
  written bay count = map (spaced 0) (lists_of c bay count)

  -- a row without its line ending
  record Row (bay k : ℕ) : Type 0 where
    text : List ℕ
    is_record : WrittenRecord k text (written bay k) (lists_of c bay k)
    all : row_text c bay k ≡ text ++ 13 ∷ 10 ∷ []

  row_written : (k bay : ℕ) → Row bay (suc k)
  unfolding row_text separator lists_of
  row_written zero bay =
      record {
        text = spaced 0 (list_of c bay);
        is_record = last_field (list_written (list_of c bay) (small bay));
        all = append-nil (spaced 0 (list_of c bay) ++ 13 ∷ 10 ∷ []);
      }
  row_written (suc k) bay =
      let more = row_written k (bay + 1) in
      let first = spaced 0 (list_of c bay) in
      record {
        text = first ++ 44 ∷ more.text;
        is_record = field_before (list_written (list_of c bay) (small bay)) more.is_record;
        all =
            append_assoc first (44 ∷ []) (row_text c (bay + 1) (suc k)) ∙ ap (λ (t : List ℕ). first ++ 44 ∷ t) more.all
            ∙ sym (append_assoc first (44 ∷ more.text) (13 ∷ 10 ∷ []));
      }

  lists_add : (a b bay : ℕ) → lists_of c bay (a + b) ≡ lists_of c bay a ++ lists_of c (bay + a) b
  unfolding lists_of
  lists_add zero b bay = rw (zero-add b, add-zero bay)
  lists_add (suc a) b bay =
      let up : bay + 1 + a ≡ bay + suc a = omega arith in
      rw (suc-add a b) (ap (λ (ls : List (List ℕ)). list_of c bay ∷ ls) (lists_add a b (bay + 1) ∙ ap (λ (n : ℕ). lists_of c (bay + 1) a ++ lists_of c n b) up))

  map_append : (f : List ℕ → List ℕ) (xs ys : List (List ℕ)) → map f (xs ++ ys) ≡ map f xs ++ map f ys
  map_append f [] ys = refl
  map_append f (x ∷ xs) ys = ap (λ (l : List (List ℕ)). f x ∷ l) (map_append f xs ys)

  no_lists : (columns bay : ℕ) → lists_of c bay (0 * columns) ≡ []
  unfolding lists_of
  no_lists columns bay = rw (zero-mul columns)

  rows_written : (k rows bay : ℕ) → WrittenSheet (suc k) rows (sheet_text c (suc k) bay rows) (written bay (rows * suc k)) (lists_of c bay (rows * suc k))
  unfolding sheet_text
  rows_written k zero bay = rw (no_lists (suc k) bay) no_record
  rows_written k (suc rows) bay =
      let row = row_written k bay in
      let columns = suc k in
      let more = rows_written k rows (bay + columns) in
      let lists : lists_of c bay columns ++ lists_of c (bay + columns) (rows * columns) ≡ lists_of c bay (suc rows * columns)
      = sym (ap (lists_of c bay) (one_row rows columns) ∙ lists_add columns (rows * columns) bay) in
      let texts : written bay columns ++ written (bay + columns) (rows * columns) ≡ written bay (suc rows * columns)
      = sym (map_append (spaced 0) (lists_of c bay columns) (lists_of c (bay + columns) (rows * columns))) ∙ ap (map (spaced 0)) lists in
      let all : row.text ++ 13 ∷ 10 ∷ [] ++ sheet_text c columns (bay + columns) rows ≡ row_text c bay columns ++ sheet_text c columns (bay + columns) rows
      = ap (λ (t : List ℕ). t ++ sheet_text c columns (bay + columns) rows) (sym row.all) in
      subst (λ (t : List ℕ). WrittenSheet columns (suc rows) t (written bay (suc rows * columns)) (lists_of c bay (suc rows * columns))) all
      (subst₂ (λ (cs ls : List (List ℕ)). WrittenSheet columns (suc rows) (row.text ++ 13 ∷ 10 ∷ [] ++ sheet_text c columns (bay + columns) rows) cs ls) texts lists
      (ended_record row.is_record more))

-- ---- the writer's form is of the grammar

record-is-text : {k : ℕ} {t : List ℕ} {cs ls : List (List ℕ)} → WrittenRecord k t cs ls → RecordText k t cs ls
record-is-text (last_field l) = last (bare l)
record-is-text (field_before l r) = comma (bare l) (record-is-text r)

pub written_is_sheet : {columns rows : ℕ} {t : List ℕ} {cs ls : List (List ℕ)} → WrittenSheet columns rows t cs ls → SheetText columns rows t cs ls
written_is_sheet no_record = none
written_is_sheet (ended_record r s) = line (record-is-text r) crlf (written_is_sheet s)

-- ---- written and read again

-- a bay's list has numbers of the tiles
module _ (tiles : List ℕ) (small : (i : ℕ) → i < length tiles → get_or tiles i 0 < 2 ^ 32) where
  tile_small : Below tiles
  tile_small i = go (leb (length tiles) i) refl
    where
      go : (s : Bool) → leb (length tiles) i ≡ s → get_or tiles i 0 < 2 ^ 32
      go true e = let z = get_or-eq_default tiles 0 (leb-true (length tiles) i e) in omega arith
      go false e = small i (leb-false (length tiles) i e)

  part_small : (from to : ℕ) → Below (part tiles from to)
  part_small from to i = go (leb (to - from) i) refl
    where
      go : (s : Bool) → leb (to - from) i ≡ s → get_or (part tiles from to) i 0 < 2 ^ 32
      go true e =
          let past = leb-true (to - from) i e in
          let short = length-take (to - from) (drop from tiles) in
          let over : length (part tiles from to) ≤ i = omega arith in
          let z = get_or-eq_default (part tiles from to) 0 over in
          omega arith
      go false e =
          let within = leb-false (to - from) i e in
          rw (get_or-take (to - from) (drop from tiles) i 0 within, get_or-drop from tiles i 0) (tile_small (from + i))

module _ (rows columns : ℕ) (offsets tiles : List ℕ) (some : 1 ≤ columns) (small : (i : ℕ) → i < length tiles → get_or tiles i 0 < 2 ^ 32) where
  abbrev c : Constraints
  c = lists offsets tiles

  abbrev bytes : List ℕ
  bytes = sheet_bytes rows columns offsets tiles

  -- what is written has the writer's form, of the lists of the bays in reading order
  pub in_writers_form : WrittenSheet columns rows bytes (map (spaced 0) (lists_of c 0 (rows * columns))) (lists_of c 0 (rows * columns))
  in_writers_form = go columns some
    where
      go : (k : ℕ) → 1 ≤ k → WrittenSheet k rows (sheet_text c k 0 rows) (map (spaced 0) (lists_of c 0 (rows * k))) (lists_of c 0 (rows * k))
      go zero h = absurd (omega arith)
      go (suc k) h = rows_written c (λ bay. part_small tiles small (get_or offsets bay 0) (get_or offsets (bay + 1) 0)) k rows 0

  -- and is a sheet of the grammar
  pub sheet_written : SheetText columns rows bytes (map (spaced 0) (lists_of c 0 (rows * columns))) (lists_of c 0 (rows * columns))
  sheet_written = written_is_sheet in_writers_form

  -- so it has no fault, and its lists are those of the bays
  pub no_fault_written : sheet_fault columns 1 rows bytes ≡ place 0 0
  no_fault_written = (complete sheet_written).no_fault 1

  pub lists_written : sheet_lists rows columns bytes ≡ lists_of c 0 (rows * columns)
  lists_written = (complete sheet_written).lists

  module _ (shape : offsets_shaped (rows * columns) c ≡ true) where
    -- the offsets and the numbers come back
    pub offsets_again : starts 0 (sheet_lists rows columns bytes) ≡ offsets
    offsets_again = ap (starts 0) lists_written ∙ same_offsets (rows * columns) offsets tiles shape

    pub tiles_again : all_tiles (sheet_lists rows columns bytes) ≡ tiles
    tiles_again = ap all_tiles lists_written ∙ same_tiles (rows * columns) offsets tiles shape

    -- the call that reads what was written passes, and leaves the offsets and the numbers
    module _ (o t : List ℕ) (sides : (from_one_to most_side rows && from_one_to most_side columns) ≡ true) (room : length o ≡ rows * columns + 1) (long : length tiles ≤ length t) where
      pub reading_passes : read_verdict rows columns bytes o t ≡ passes
      reading_passes =
          let count : tile_count rows columns bytes ≡ length tiles = ap length tiles_again in
          let enough : ltb (length t) (tile_count rows columns bytes) ≡ false = le-ltb (length t) (tile_count rows columns bytes) (omega arith) in
          rw (sides, no_fault_written, eq-eqb (length o) (rows * columns + 1) room, enough)

      pub offsets_come_back : offsets_after rows columns bytes o t ≡ offsets
      offsets_come_back = ap (λ (v : Verdict). if_passes v (starts 0 (sheet_lists rows columns bytes)) o) reading_passes ∙ offsets_again

      pub tiles_come_back : tiles_after rows columns bytes o t ≡ front tiles t
      tiles_come_back = ap (λ (v : Verdict). if_passes v (front (all_tiles (sheet_lists rows columns bytes)) t) t) reading_passes ∙ ap (λ (l : List ℕ). front l t) tiles_again

-- where the call that writes passes, what it leaves is read as the offsets and the numbers that it was given
module _ (rows columns : ℕ) (offsets tiles text : List ℕ) (wrote : write_verdict rows columns offsets tiles text ≡ passes) where
  abbrev wanted : List ℕ
  wanted = sheet_bytes rows columns offsets tiles

  abbrev shape_link : Verdict
  shape_link = refuse_if (not (offsets_shaped (rows * columns) (lists offsets tiles))) Shape

  abbrev room_link : Verdict
  room_link = refuse_if (ltb (length text) (bytes_needed rows columns offsets tiles)) (NoRoom (bytes_needed rows columns offsets tiles))

  on_grid : (from_one_to most_side rows && from_one_to most_side columns) ≡ true
  on_grid = not-false (from_one_to most_side rows && from_one_to most_side columns) (no_fault (not (from_one_to most_side rows && from_one_to most_side columns)) Size (first_passes (grid_verdict rows columns) (shape_link ▷ room_link) wrote))

  of_shape : offsets_shaped (rows * columns) (lists offsets tiles) ≡ true
  of_shape =
      not-false (offsets_shaped (rows * columns) (lists offsets tiles))
      (no_fault (not (offsets_shaped (rows * columns) (lists offsets tiles))) Shape (first_passes shape_link room_link (rest_passes (grid_verdict rows columns) (shape_link ▷ room_link) wrote)))

  -- the sheet is no longer than the text that was lent
  not_longer : length text < 2 ^ 63 → length wanted < 2 ^ 63
  not_longer slice =
      let enough =
      ltb-false (length text) (bytes_needed rows columns offsets tiles)
      (no_fault (ltb (length text) (bytes_needed rows columns offsets tiles)) (NoRoom (bytes_needed rows columns offsets tiles))
      (rest_passes shape_link room_link (rest_passes (grid_verdict rows columns) (shape_link ▷ room_link) wrote)))
      in
      omega arith

  -- the bytes that it counts are the sheet; a slice of bytes is shorter than 2^63
  pub bytes_left : length text < 2 ^ 63 → take (bytes_needed rows columns offsets tiles) (text_after rows columns offsets tiles text) ≡ wanted
  bytes_left slice =
      let fits = not_longer slice in
      let all : bytes_needed rows columns offsets tiles ≡ length wanted = omega arith in
      ap (λ (v : Verdict). take (bytes_needed rows columns offsets tiles) (if_passes v (front wanted text) text)) wrote
      ∙ ap (λ (n : ℕ). take n (front wanted text)) all ∙ take-append_seam wanted (drop (length wanted) text)

  module _ (small : (i : ℕ) → i < length tiles → get_or tiles i 0 < 2 ^ 32) (slice : length text < 2 ^ 63) (o t : List ℕ) (room : length o ≡ rows * columns + 1)
      (long : length tiles ≤ length t) where
    abbrev left : List ℕ
    left = take (bytes_needed rows columns offsets tiles) (text_after rows columns offsets tiles text)

    pub read_back : (read_verdict rows columns left o t ≡ passes) × ((offsets_after rows columns left o t ≡ offsets) × (tiles_after rows columns left o t ≡ front tiles t))
    read_back =
        let side = (both (leb 1 columns) (leb columns most_side) (both (from_one_to most_side rows) (from_one_to most_side columns) on_grid).1).0 in
        let some = leb-true 1 columns side in
        rw (bytes_left slice) (
          reading_passes rows columns offsets tiles some small of_shape o t on_grid room long,
          (
            offsets_come_back rows columns offsets tiles some small of_shape o t on_grid room long,
            tiles_come_back rows columns offsets tiles some small of_shape o t on_grid room long,
          ),
        )
