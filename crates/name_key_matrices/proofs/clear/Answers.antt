-- `name_key_matrices::clear`: 0.0 as the code writes it is the definition's. Assumes nothing.
use lib.Ieee.{of_bits}
use Rattle.units.specs.Decimals.{decimal}
use Rattle.name_key_matrices.proofs.clear.Goals as goal

pub returns : goal.returns
unfolding of_bits decimal
returns c = c.fill.ensures.after (λ y e. e)
