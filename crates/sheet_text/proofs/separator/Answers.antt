-- `sheet_text::separator` meets its contract. Assumes nothing.
use Rattle.sheet_text.proofs.Parts.{last_separator, comma_separator}
use Rattle.sheet_text.proofs.separator.Goals as goal

pub returns-then-left-eq0 : goal.returns-then-left-eq0
returns-then-left-eq0 c = last_separator _ c.if-left-eq0.true

pub returns-else-left-eq0 : goal.returns-else-left-eq0
returns-else-left-eq0 c = comma_separator _ c.if-left-eq0.false
