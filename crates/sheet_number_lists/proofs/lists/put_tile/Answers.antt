-- `lists::put_tile` meets its contract. Assumes nothing.
use Rattle.sheet_number_lists.proofs.Turns.{put_one, put_none}
use Rattle.sheet_number_lists.proofs.lists.put_tile.Goals as goal

pub returns-then-tiles-at : goal.returns-then-tiles-at
returns-then-tiles-at c = let a = c.args in put_none a.tiles.now a.at a.tile c.if-tiles-at.true

pub returns : goal.returns
returns c = let a = c.args in put_one a.tiles.now a.at a.tile c.if-tiles-at.false
