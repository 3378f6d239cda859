-- `count_field::count_at` meets its contract. Assumes nothing.
use mathlib.Core.Path.{◌∙◌, ap}
use Rattle.sheet_numbers.specs.Counts.{count_of}
use Rattle.sheet_numbers.proofs.QuotedNumbers.{count_read}
use Rattle.sheet_numbers.proofs.count_field.count_at.Goals as goal

pub returns : goal.returns
returns c = let a = c.args in
    c.count_of.ensures ∙ ap count_of c.raw.ensures ∙ count_read a.text.now a.at c.field_or_empty.result c.field_or_empty.ensures
