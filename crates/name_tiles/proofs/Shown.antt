-- What is shown for a tile, in words: its name, or its place in the list of strands in decimal. Assumes nothing.
use Prim.Native.Nat.{ℕ, zero, suc, ◌+◌, ◌-◌, ◌*◌, ◌/◌, ◌%◌, ◌≤◌, ◌<◌}
use mathlib.Core.Path.{◌≡◌, refl, sym, ◌∙◌, ap, ap₂}
use mathlib.Core.Bool.{Bool, true, false}
use mathlib.Core.List.{List, [], ◌∷◌}
use native.Mathlib.Nat.{not-suc-le-zero, le_of_suc-le-suc, add-zero, zero-add, add-suc, suc-add}
use native.Mathlib.Numerals.{add-one}
use native.Mathlib.Omega.{arith}
use lib.Dec.{ltb}
use lib.ListN.{length, get_or, take, drop}
use lib.Seq.{drop-cons}
use borrow.Author.Tests.{lt-ltb, le-ltb, ltb-true, ltb-false, eq-eqb, ne_eqb}
use Rattle.units.specs.Refusals.{passes}
use Rattle.text_entries.specs.Entries.{part, entry_of}
use Rattle.name_strands.specs.Numerals.{digit, numerals_from, numeral_start, numeral_end, decimal_in, decimal}
use Rattle.name_strands.specs.Names.{StrandNames, null_name, StrandsReadable}
use Rattle.name_tiles.specs.Tiles.{tile_verdict}
use Rattle.name_shown.specs.Shown.{shown_name}
use Rattle.name_tiles.proofs.Tile.{tile_readable}

twice_suc : (j : ℕ) → 2 * suc j ≡ suc (suc (2 * j))
twice_suc j = omega arith

-- two digits take two places each
length_numerals : (i count : ℕ) → length (numerals_from i count) ≡ 2 * count
unfolding numerals_from
length_numerals i zero = refl
length_numerals i (suc count) = omega (arith, length_numerals (suc i) count)

-- the digits of the j-th number of the text
tens_at : (i count j : ℕ) → j < count → get_or (numerals_from i count) (2 * j) 0 ≡ digit ((j + i) / 10)
unfolding numerals_from
tens_at i zero j h = absurd (not-suc-le-zero h)
tens_at i (suc count) zero h = rw (zero-add i)
tens_at i (suc count) (suc j) h = rw (twice_suc j, suc-add j i, ← add-suc j i) (tens_at (suc i) count j (le_of_suc-le-suc h))

ones_at : (i count j : ℕ) → j < count → get_or (numerals_from i count) (2 * j + 1) 0 ≡ digit ((j + i) % 10)
unfolding numerals_from
ones_at i zero j h = absurd (not-suc-le-zero h)
ones_at i (suc count) zero h = rw (zero-add i)
ones_at i (suc count) (suc j) h =
    let e : 2 * suc j + 1 ≡ suc (suc (2 * j + 1)) = omega arith in
    rw (e, suc-add j i, ← add-suc j i) (ones_at (suc i) count j (le_of_suc-le-suc h))

-- one byte of a text, and two
part_one : (text : List ℕ) (k : ℕ) → k < length text → take 1 (drop k text) ≡ get_or text k 0 ∷ []
part_one text k h = rw (drop-cons text k 0 h)

part_two : (text : List ℕ) (k : ℕ) → suc k < length text → take 2 (drop k text) ≡ get_or text k 0 ∷ get_or text (suc k) 0 ∷ []
part_two text k h =
    let h' : k < length text = omega arith in
    rw (drop-cons text k 0 h', drop-cons text (suc k) 0 h)

-- a number of one digit, and one of two
decimal_one : (i : ℕ) → i < 10 → decimal i ≡ digit i ∷ []
unfolding decimal_in
decimal_one i h = rw (lt-ltb i 10 h)

decimal_two : (i : ℕ) → 10 ≤ i → i < 100 → decimal i ≡ digit (i / 10) ∷ digit (i % 10) ∷ []
unfolding decimal_in
decimal_two zero h g = absurd (not-suc-le-zero h)
decimal_two (suc i) h g =
    let small : suc i / 10 < 10 = omega arith in
    rw (le-ltb (suc i) 10 h, lt-ltb (suc i / 10) 10 small)

-- a place below ten shows its second digit, any other both
below_ten : (count i : ℕ) → i < count → i < 10 → part (numerals_from 0 count) (numeral_start i) (numeral_end i) ≡ decimal i
below_ten count i h small =
    let text = numerals_from 0 count in
    let one : 2 * i + 2 - (2 * i + 1) ≡ 1 = omega arith in
    let inside : 2 * i + 1 < length text = omega (arith, length_numerals 0 count) in
    let same : (i + 0) % 10 ≡ i = omega arith in
    rw (lt-ltb i 10 small, one)
    (part_one text (2 * i + 1) inside ∙ ap (λ d. d ∷ []) (ones_at 0 count i h ∙ ap digit same) ∙ sym (decimal_one i small))

from_ten : (count i : ℕ) → count ≤ 100 → i < count → 10 ≤ i → part (numerals_from 0 count) (numeral_start i) (numeral_end i) ≡ decimal i
from_ten count i few h large =
    let text = numerals_from 0 count in
    let two : 2 * i + 2 - 2 * i ≡ 2 = omega arith in
    let inside : suc (2 * i) < length text = omega (arith, length_numerals 0 count) in
    let small : i < 100 = omega arith in
    let tens : get_or text (2 * i) 0 ≡ digit (i / 10) = tens_at 0 count i h ∙ ap (λ k. digit (k / 10)) (add-zero i) in
    let ones : get_or text (suc (2 * i)) 0 ≡ digit (i % 10) = rw (← add-one (2 * i)) (ones_at 0 count i h ∙ ap (λ k. digit (k % 10)) (add-zero i)) in
    rw (le-ltb i 10 large, two) (part_two text (2 * i) inside ∙ ap₂ (λ a b. a ∷ b ∷ []) tens ones ∙ sym (decimal_two i large small))

-- in a numerals text of at most a hundred numbers, what is shown for a number is that number in decimal
pub shown_is_decimal : (count i : ℕ) → count ≤ 100 → i < count → part (numerals_from 0 count) (numeral_start i) (numeral_end i) ≡ decimal i
shown_is_decimal count i few h = either (ltb i 10) refl
  where
    either : (t : Bool) → ltb i 10 ≡ t → part (numerals_from 0 count) (numeral_start i) (numeral_end i) ≡ decimal i
    either true e = below_ten count i h (ltb-true i 10 e)
    either false e = from_ten count i few h (ltb-false i 10 e)

-- a strand at list place i, which is tile i + 1, without a name shows i in decimal
pub unnamed_shows_its_place : (strands : ℕ) (n : StrandNames) (i : ℕ) → tile_verdict strands n (i + 1) ≡ passes → (get_or n.present (i + 1) 0 ≡ 1 → ⊥)
    → shown_name n (i + 1) ≡ decimal i
unfolding shown_name
unnamed_shows_its_place strands n i e absent =
    let r = tile_readable strands n (i + 1) e in
    let less : i + 1 - 1 ≡ i = omega arith in
    let below : i < 63 = omega (arith, r.tile_in_bounds, r.strands_readable.few) in
    rw (ne_eqb (get_or n.present (i + 1) 0) 1 absent, less, r.strands_readable.numerals_right) (shown_is_decimal 63 i (omega arith) below)

-- a tile with a name shows it, and tile 0 shows `null`
pub named_shows_its_name : (n : StrandNames) (tile : ℕ) → get_or n.present tile 0 ≡ 1 → shown_name n tile ≡ entry_of n.text n.offsets tile
unfolding shown_name
named_shows_its_name n tile present = rw (eq-eqb (get_or n.present tile 0) 1 present)

pub null_shows_null : (n : StrandNames) → StrandsReadable n → shown_name n 0 ≡ null_name
null_shows_null n r = named_shows_its_name n 0 r.null_present ∙ r.null_name_holds
