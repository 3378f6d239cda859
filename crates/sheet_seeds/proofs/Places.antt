-- Laws of the seeds' rows and columns: the turns of the loop that puts them and keeps the first fault. Assumes nothing.
use Rattle.std.specs.Prelude.{Result, Ok, Err}
use Prim.Native.Nat.{ℕ, ◌+◌, ◌-◌, ◌*◌, ◌≤◌, ◌<◌}
use mathlib.Core.Bool.{Bool, true, false}
use mathlib.Core.List.{List, ◌∷◌, map}
use mathlib.Core.Path.{◌≡◌, refl, ◌∙◌}
use native.Mathlib.Nat.{sub-zero}
use native.Mathlib.Omega.{arith}
use lib.ListN.{drop, set}
use lib.Seq.{sets}
use Rattle.sheet_fields.specs.Fields.{content}
use Rattle.sheet_fields.specs.Runs.{bytes_in}
use Rattle.sheet_records.specs.Tables.{columns}
use Rattle.sheet_numbers.specs.Counts.{is_count, from_zero}
use Rattle.sheet_numbers.proofs.Pairs.{InPairs, pairs_start, pairs_go_on, pairs_end, split}
use Rattle.sheet_seeds.specs.Seeds.{places_of, all_read, first_of, place_fault, first_found}
use Rattle.sheet_fields.specs.declared.Place.{Place}

-- the fault found so far, or the first one of those that follow
abbrev pub kept : Result Unit Place → Result Unit Place → Result Unit Place
kept (Err found) later = Err found
kept (Ok done) later = later

none_follows : (found : Result Unit Place) → found ≡ kept found all_read
none_follows (Err found) = refl
none_follows (Ok done) = refl

first_of_lem : (found : Result Unit Place) (i : ℕ) (row column : Bool) (more : List Bool)
    → kept (first_found found row column (i + 1)) (first_of (i + 1 + 1) more) ≡ kept found (first_of (i + 1) (row ∷ column ∷ more))
unfolding first_of first_found
first_of_lem (Err found) i row column more = refl
first_of_lem (Ok done) i true true more = refl
first_of_lem (Ok done) i true false more = refl
first_of_lem (Ok done) i false column more = refl

-- the first i seeds have been put: what is left of them ends the table and the search for a fault
pub record InPlaces (records : ℕ) (text old out : List ℕ) (found : Result Unit Place) (next i : ℕ) : Type 0 where
  pub put : InPairs from_zero records 3 0 text old out next i
  pub left : kept found (first_of (i + 1) (map is_count (columns (records - i) 3 0 2 (drop next text)))) ≡ place_fault records text

module _ (records : ℕ) (text old : List ℕ) where
  pub places_start : InPlaces records text old old all_read 0 0
  unfolding place_fault
  places_start = record { put = pairs_start from_zero records 3 0 text old; left = rw (sub-zero records) refl }

  module _ (out : List ℕ) (found : Result Unit Place) (next i : ℕ) (s : InPlaces records text old out found next i) where
    module _ (k : records ≤ i) where
      pub places_put : out ≡ sets old 0 (places_of records text)
      unfolding places_of
      places_put = pairs_end from_zero records 3 0 text old out next i s.put k

      pub places_fault : found ≡ place_fault records text
      unfolding columns first_of
      places_fault = let none : records - i ≡ 0 = omega arith in none_follows found ∙ rw none at s.left

    module _ (more : i < records) (second after : ℕ) (f : second ≡ next + bytes_in 1 (drop next text)) (g : after ≡ next + bytes_in 3 (drop next text)) where
      at_first : next ≡ next + bytes_in 0 (drop next text)
      unfolding bytes_in
      at_first = omega arith

      pub places_go_on : (x y : ℕ) → x ≡ from_zero (content (drop next text)) → y ≡ from_zero (content (drop second text))
          → (row column : Bool) → row ≡ is_count (content (drop next text)) → column ≡ is_count (content (drop second text))
          → (now : Result Unit Place) → now ≡ first_found found row column (i + 1) → InPlaces records text old (set (set out (i * 2) x) (i * 2 + 1) y) now after (i + 1)
      places_go_on x y p q row column r c now e =
          let here = split from_zero records 3 0 text old out next i s.put more next second after at_first f g in
          let rest = map is_count (columns (records - (i + 1)) 3 0 2 (drop after text)) in
          record {
            put = pairs_go_on from_zero records 3 0 text old out next i s.put more next second after at_first f g x y p q;
            left = rw (e, r, c) (first_of_lem found i (is_count (content (drop next text))) (is_count (content (drop second text))) rest) ∙ rw here at s.left;
          }
