-- `read::read_sheet` meets its contract. Assumes nothing.
use mathlib.Core.Path.{sym, ◌∙◌}
use Rattle.sheet.proofs.Reading.{all_cells}
use Rattle.sheet.proofs.read.read_sheet.Goals as goal

pub put_lists-requires-clause-text_value : goal.put_lists-requires-clause-text_value
put_lists-requires-clause-text_value c = let a = c.args in all_cells a.rows a.cols a.text.now c.in_ok-count.count (sym c.in_ok-count.was ∙ c.check_sheet.ensures)
