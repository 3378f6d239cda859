-- `name_base_list::glue_number` meets its contract. Assumes nothing.
use mathlib.Core.Path.{sym, ◌∙◌}
use Rattle.name_base_list.proofs.glue_number.Goals as goal

pub returns-then-is_from : goal.returns-then-is_from
returns-then-is_from c = rw (sym c.is_from.ensures ∙ c.if-is_from.true)

pub returns-else-is_from : goal.returns-else-is_from
returns-else-is_from c = rw (sym c.is_from.ensures ∙ c.if-is_from.false)
