-- A seed's name means the first tile that shows it, and a shown name is found again. Assumes nothing.
use Prim.Native.Nat.{ℕ, ◌≤◌, ◌<◌}
use mathlib.Core.Path.{◌≡◌, refl, sym, ◌∙◌}
use mathlib.Core.Bool.{true≢false}
use mathlib.Core.List.{List}
use native.Mathlib.Omega.{arith}
use Rattle.text_entries.proofs.Same.{same_equal, equal_same}
use Rattle.text_entries.proofs.InOrder.{First, first}
use Rattle.name_strands.specs.Names.{StrandNames, null_name, StrandsReadable}
use Rattle.name_shown.specs.Shown.{shown_name}
use Rattle.name_tiles.proofs.Shown.{null_shows_null}
use Rattle.name_seed_checks.specs.Strands.{tile_count, is_shown, seed_strand, FirstWith}

module _ (n : StrandNames) (name : List ℕ) where
  -- the tile that is found is the first that passes the test
  tested : First (is_shown n name) 0 (tile_count n) (seed_strand n name)
  tested = first (is_shown n name) 0 (tile_count n)

  -- no tile that was passed over shows the name
  pub passed_over : (tile : ℕ) → tile < seed_strand n name → shown_name n tile ≡ name → ⊥
  passed_over tile below e = true≢false (sym (equal_same (shown_name n tile) name e) ∙ tested.none_before tile (omega arith) below)

  -- a name that means a tile means the first tile that shows it
  pub found_is_first : seed_strand n name < tile_count n → FirstWith n name (seed_strand n name)
  found_is_first h = record { shows = same_equal (shown_name n (seed_strand n name)) name (tested.there (omega arith)); none_before = passed_over }

  -- the first tile that shows it is the one that it means
  pub first_is_found : (tile : ℕ) → tile < tile_count n → FirstWith n name tile → seed_strand n name ≡ tile
  first_is_found tile h first =
      let not_later : seed_strand n name < tile → ⊥ = λ below. first.none_before (seed_strand n name) below (found_is_first (omega arith)).shows in
      let not_earlier : tile < seed_strand n name → ⊥ = λ above. passed_over tile above first.shows in
      omega arith

  -- 18 is given exactly where no tile shows it
  pub unknown : ((tile : ℕ) → tile < tile_count n → shown_name n tile ≡ name → ⊥) → seed_strand n name ≡ tile_count n
  unknown none =
      let not_below : seed_strand n name < tile_count n → ⊥ = λ below. none (seed_strand n name) below (found_is_first below).shows in
      omega (arith, tested.to)

  pub unknown_shows_nowhere : seed_strand n name ≡ tile_count n → (tile : ℕ) → tile < tile_count n → shown_name n tile ≡ name → ⊥
  unknown_shows_nowhere e tile h shows = passed_over tile (omega arith) shows

-- the name shown for a tile is found again, unless an earlier tile shows the same name
pub shown_name_found_again : (n : StrandNames) (tile : ℕ) → tile < tile_count n → ((earlier : ℕ) → earlier < tile → shown_name n earlier ≡ shown_name n tile → ⊥)
    → seed_strand n (shown_name n tile) ≡ tile
shown_name_found_again n tile h none = first_is_found n (shown_name n tile) tile h (record { shows = refl; none_before = none })

-- in every case it means the first tile that shows it, which is that tile or an earlier one
pub shown_name_means_the_first : (n : StrandNames) (tile : ℕ) → tile < tile_count n
    → (seed_strand n (shown_name n tile) ≤ tile) × FirstWith n (shown_name n tile) (seed_strand n (shown_name n tile))
shown_name_means_the_first n tile h =
    let name = shown_name n tile in
    let not_later : tile < seed_strand n name → ⊥ = λ above. passed_over n name tile above refl in
    let at_most : seed_strand n name ≤ tile = omega arith in
    (at_most, found_is_first n name (omega arith))

-- `null` seeds an empty bay
pub null_means_empty : (n : StrandNames) → StrandsReadable n → 0 < tile_count n → seed_strand n null_name ≡ 0
null_means_empty n r h =
    first_is_found n null_name 0 h (record { shows = null_shows_null n r; none_before = λ earlier below. absurd (omega arith) })
