-- `name_seed_checks::first_shown`: the tiles that are left have the answer. Assumes nothing.
use Prim.Native.Nat.{◌-◌}
use mathlib.Core.Path.{◌≡◌}
use Rattle.text_entries.specs.InOrder.{first_from}
use Rattle.name_strands.specs.Names.{strand_names_of}
use Rattle.name_seed_checks.specs.Strands.{tile_count, is_shown, seed_strand}
use Rattle.name_seed_checks.proofs.first_shown.Given as goal

abbrev pub invariant-loop-tile : goal.invariant-loop-tile
invariant-loop-tile l =
    let n = strand_names_of l.names in
    seed_strand n l.name ≡ first_from (is_shown n l.name) l.tile (tile_count n - l.tile)
