-- `text_decimals::logarithm` meets its contract. Assumes nothing.
use Rattle.std.proofs.Common.{sym, ◌∙◌}
use lib.Ieee.{of_bits}
use Rattle.text_decimals.specs.Decimals.{logarithm_of}
use Rattle.text_decimals.proofs.logarithm.Goals as goal

pub returns-then-is_minus_infinity : goal.returns-then-is_minus_infinity
unfolding logarithm_of of_bits
returns-then-is_minus_infinity c = rw (sym c.is_minus_infinity.ensures ∙ c.if-is_minus_infinity.true)

pub returns : goal.returns
unfolding logarithm_of
returns c = rw (sym c.is_minus_infinity.ensures ∙ c.if-is_minus_infinity.false) c.decimal.ensures
