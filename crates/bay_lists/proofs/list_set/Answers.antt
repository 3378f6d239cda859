-- `bay_lists::list_set` meets its contract: what the list names, number by number. Assumes nothing.
use Prim.Native.Nat.{◌+◌}
use mathlib.Core.Path.{◌∙◌, sym}
use mathlib.Core.Bool.{false, ◌||◌}
use mathlib.Core.List.{[]}
use lib.Dec.{eqb}
use lib.ListN.{get_or, take}
use Rattle.bay_lists.proofs.Naming.{names_more, names_none}
use Rattle.bay_lists.specs.Lists.{names}
use Rattle.sets.proofs.Build.{name_more}
use Rattle.sets.proofs.Words.{word_same}
use Rattle.bay_lists.proofs.list_set.Goals as goal

pub loop-tile-init : goal.loop-tile-init
loop-tile-init c = c.empty-set.ensures ∙ word_same (λ s. false) (names []) 64 (λ t h. sym (names_none t))

pub loop-tile-preserved : goal.loop-tile-preserved
loop-tile-preserved c = let tiles = c.args.tiles.now in
    let i = c.loop-tile.tile-index in
    name_more (names (take i tiles)) 64 (get_or tiles i 0) c.loop-tile.set c.with-set.result c.loop-tile.invariant c.with-set.ensures
    ∙ word_same (λ s. names (take i tiles) s || eqb s (get_or tiles i 0)) (names (take (i + 1) tiles)) 64 (λ t h. sym (names_more tiles i t c.loop-tile-test.true))
