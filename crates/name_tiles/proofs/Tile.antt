-- What the tests of a tile's name tell where they pass. Assumes nothing.
use Prim.Native.Nat.{ℕ, ◌<◌}
use mathlib.Core.Path.{◌≡◌}
use lib.Dec.{ltb}
use lib.ListN.{length}
use borrow.Author.Tests.{ltb-true}
use Rattle.units.specs.Refusals.{passes, ◌▷◌}
use Rattle.units.specs.declared.refusal.Refusal.TheVariants.{Size, Unreadable, Tile}
use Rattle.units.proofs.Verdicts.{first_passes, rest_passes}
use Rattle.name_strands.specs.Names.{StrandNames, names_sizes, names_reading, StrandsReadable}
use Rattle.name_tiles.specs.Tiles.{tile_below, tile_verdict}
use Rattle.text_entries.proofs.Tested.{no_fault_found}
use Rattle.name_strands.proofs.Passed.{sized, readable}

-- the names can be read, and the tile is one of them
pub record TileReadable (n : StrandNames) (tile : ℕ) : Type 0 where
  pub strands_readable : StrandsReadable n
  pub tile_in_bounds : tile < length n.present

pub tile_readable : (strands : ℕ) (n : StrandNames) (tile : ℕ) → tile_verdict strands n tile ≡ passes → TileReadable n tile
tile_readable strands n tile e =
    let rest = rest_passes (names_sizes strands n) (names_reading n ▷ tile_below strands tile) e in
    let s = sized strands n (no_fault_found _ Size (first_passes (names_sizes strands n) (names_reading n ▷ tile_below strands tile) e)) in
    record {
      strands_readable = readable n s (no_fault_found _ Unreadable (first_passes (names_reading n) (tile_below strands tile) rest));
      tile_in_bounds = rw s.byte_count (ltb-true tile strands (no_fault_found (ltb tile strands) Tile (rest_passes (names_reading n) (tile_below strands tile) rest)));
    }
