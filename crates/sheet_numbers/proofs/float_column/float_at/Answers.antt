-- `float_column::float_at` meets its contract. Assumes nothing.
use mathlib.Core.Path.{◌∙◌, ap}
use Rattle.sheet_numbers.specs.Floats.{read_as}
use Rattle.sheet_numbers.proofs.QuotedNumbers.{float_read}
use Rattle.sheet_numbers.proofs.float_column.float_at.Goals as goal

pub returns : goal.returns
returns c = let a = c.args in
    c.read_as.ensures ∙ ap (read_as a.kind) c.raw.ensures ∙ float_read a.kind a.text.now a.at c.field_or_empty.result c.field_or_empty.ensures
