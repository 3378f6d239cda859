-- A running strict minimum: a choice is kept until a smaller value comes, so that of equal values the first stays.
-- What is held beside the value (a place, a strand) is the program's to choose: `value` reads the value out of it. Assumes nothing.
use Rattle.std.specs.Prelude.{cond, Float}
use Rattle.std.specs.Float.Ieee.{lt}

-- the new one where its value is smaller, else the old one
abbrev pub better : {A : Type 0} → (A → Float) → A → A → A
better value old new = cond (lt (value new) (value old)) new old
