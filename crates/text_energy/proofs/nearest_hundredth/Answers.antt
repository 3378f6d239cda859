-- `text_energy::nearest_hundredth` meets its contract. Assumes nothing.
use mathlib.Core.Path.{sym, ◌∙◌, ap}
use lib.Ieee.{binary64}
use lib.Ieee.Bits.{of_bits-to_bits}
use Rattle.text_energy.specs.Hundredths.{nearest_hundredth}
use Rattle.text_energy.proofs.Texts.{nan_has_none}
use Rattle.text_energy.proofs.nearest_hundredth.Goals as goal

pub returns-then-is_nan : goal.returns-then-is_nan
returns-then-is_nan c = nan_has_none c.args.energy (sym c.is_nan.ensures.value ∙ c.if-is_nan.true)

pub returns : goal.returns
returns c = c.of_bits.ensures ∙ ap nearest_hundredth (of_bits-to_bits binary64 c.args.energy (rw c.well_formed.0.1 tt))
