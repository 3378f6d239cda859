-- `key_faults::is_blank` meets its contract. Assumes nothing.
use mathlib.Core.Path.{◌∙◌}
use Rattle.sheet_keys.proofs.Checking.{blank_is}
use Rattle.sheet_keys.proofs.key_faults.is_blank.Goals as goal

pub returns : goal.returns
returns c = let a = c.args in
    c.is_empty.ensures ∙ rw c.raw.ensures (blank_is a.sheet.now a.at c.field_or_empty.result c.field_or_empty.ensures)
