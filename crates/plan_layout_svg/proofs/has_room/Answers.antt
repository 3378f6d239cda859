-- `plan_layout_svg::has_room` meets its contract. Assumes nothing.
use borrow.Author.Tests.{le-leb, lt-leb}
use Rattle.plan_layout_svg.proofs.has_room.Goals as goal

pub returns-then-rows-le-MOST_SIDE : goal.returns-then-rows-le-MOST_SIDE
returns-then-rows-le-MOST_SIDE c = rw (le-leb _ _ c.if-rows-le-MOST_SIDE.true)

pub returns-else-rows-le-MOST_SIDE : goal.returns-else-rows-le-MOST_SIDE
returns-else-rows-le-MOST_SIDE c = rw (lt-leb _ _ c.if-rows-le-MOST_SIDE.false)
