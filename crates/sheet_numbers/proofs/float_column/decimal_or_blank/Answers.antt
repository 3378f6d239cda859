-- `float_column::decimal_or_blank` meets its contract. Assumes nothing.
use mathlib.Core.Path.{refl, sym, ◌∙◌}
use lib.Ieee.{of_bits, round}
use Rattle.units.specs.Decimals.{decimal}
use Rattle.sheet_numbers.specs.Floats.{read_as}
use Rattle.sheet_numbers.proofs.float_column.decimal_or_blank.Goals as goal

pub returns-then-is_empty : goal.returns-then-is_empty
unfolding read_as of_bits decimal round
returns-then-is_empty c = rw (sym c.is_empty.ensures ∙ c.if-is_empty.true) refl

pub returns : goal.returns
unfolding read_as
returns c = rw (sym c.is_empty.ensures ∙ c.if-is_empty.false) c.decimal.ensures
