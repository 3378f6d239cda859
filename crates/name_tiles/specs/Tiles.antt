-- What is refused of a tile's name, and what is answered. Assumes nothing.
use Rattle.std.specs.Prelude.{ℕ, not, ltb}
use Rattle.units.specs.Refusals.{Verdict, refuse_if, if_passes, ◌▷◌}
use Rattle.units.specs.declared.refusal.Refusal.TheVariants.{Tile}
use Rattle.name_strands.specs.Names.{StrandNames, names_sizes, names_reading}
use Rattle.name_shown.specs.Shown.{Part, of_text, shown_part}

-- 6, alone: the tile is not below the count of strands
abbrev pub tile_below : ℕ → ℕ → Verdict
tile_below strands tile = refuse_if (not (ltb tile strands)) Tile

abbrev pub tile_verdict : (strands : ℕ) → StrandNames → (tile : ℕ) → Verdict
tile_verdict strands n tile = names_sizes strands n ▷ names_reading n ▷ tile_below strands tile

-- what a call answers for a tile: the part that is shown, empty from the names text's start where it is refused
abbrev pub tile_part : (strands : ℕ) → StrandNames → (tile : ℕ) → Part
tile_part strands n tile = if_passes (tile_verdict strands n tile) (shown_part n tile) (of_text 0 0)
