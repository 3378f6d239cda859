-- `text_decimals::is_minus_infinity` meets its contract. Assumes nothing.
use Rattle.std.proofs.Common.{ap, ◌∙◌, eqb}
use Rattle.text_decimals.proofs.Parts.{minus_infinity_is}
use lib.Pointwise.{pointwise}
use Rattle.text_decimals.proofs.is_minus_infinity.Goals as goal

pub returns : goal.returns
returns c = c.eq.ensures ∙ ap (λ s. pointwise eqb c.args.text.now s) c.as_slice.ensures ∙ minus_infinity_is c.args.text.now
