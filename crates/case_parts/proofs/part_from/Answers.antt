-- `case_parts::part_from` meets its contract: the front of what stands from the place on. Assumes nothing.
use mathlib.Core.Path.{◌∙◌}
use Rattle.case_parts.proofs.Between.{as_from}
use Rattle.case_parts.proofs.part_from.Goals as goal

pub returns : goal.returns
returns g c = let a = c.args in
    c.front.ensures ∙ as_from a.table.now a.from a.count c.least.ensures
