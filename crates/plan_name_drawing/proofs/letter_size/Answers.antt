-- `plan_name_drawing::letter_size` meets its contract. Assumes nothing.
use borrow.Author.Tests.{lt-ltb, le-ltb}
use Rattle.plan_name_drawing.specs.Letters.{letter_size}
use Rattle.plan_name_drawing.proofs.letter_size.Goals as goal

pub returns-then-count-lt7 : goal.returns-then-count-lt7
unfolding letter_size
returns-then-count-lt7 c = rw (lt-ltb _ _ c.if-count-lt7.true)

pub returns-then-count-lt101 : goal.returns-then-count-lt101
unfolding letter_size
returns-then-count-lt101 c = rw (le-ltb _ _ c.if-count-lt7.false, lt-ltb _ _ c.if-count-lt101.true)

pub returns : goal.returns
unfolding letter_size
returns c = rw (le-ltb _ _ c.if-count-lt7.false, le-ltb _ _ c.if-count-lt101.false)
