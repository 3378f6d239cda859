-- `dna_mismatches::calculate_single_mismatch_penalty` meets its contract: the code's 0.0 is the printed 0. Assumes nothing.
use mathlib.Core.Path.{sym, ◌∙◌}
use lib.Ieee.{of_bits}
use Rattle.units.specs.Decimals.{decimal}
use Rattle.dna_mismatches.proofs.calculate_single_mismatch_penalty.Goals as goal

pub returns-else-good_match-2 : goal.returns-else-good_match-2
unfolding of_bits decimal
returns-else-good_match-2 c = rw (sym c.good_match.ensures ∙ c.if-good_match.false, sym c.good_match-else-good_match.ensures ∙ c.if-good_match-2.false)
