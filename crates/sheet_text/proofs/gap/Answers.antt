-- `sheet_text::gap` meets its contract. Assumes nothing.
use Rattle.sheet_text.proofs.Parts.{first_gap, later_gap}
use Rattle.sheet_text.proofs.gap.Goals as goal

pub returns-then-i-eq0 : goal.returns-then-i-eq0
returns-then-i-eq0 c = first_gap _ c.if-i-eq0.true

pub returns-else-i-eq0 : goal.returns-else-i-eq0
returns-else-i-eq0 c = later_gap _ c.if-i-eq0.false
