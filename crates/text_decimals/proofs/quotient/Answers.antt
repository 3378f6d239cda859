-- `text_decimals::quotient` meets its contract. Assumes nothing.
use Rattle.std.proofs.Common.{refl}
use lib.Ieee.{of_bits}
use Rattle.text_decimals.proofs.Quotients.{up_from, quotient_at}
use Rattle.text_decimals.proofs.quotient.Goals as goal

pub returns : goal.returns
unfolding of_bits up_from
returns c = let a = c.args in
    let pre = c.requires in
    quotient_at _ refl c.nearest_u64_to_f64.result a.n a.k c.nearest_u64_to_f64.ensures pre.0 pre.1
