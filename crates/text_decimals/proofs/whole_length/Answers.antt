-- `text_decimals::whole_length` meets its contract. Assumes nothing.
use Rattle.text_decimals.proofs.Digits.{point_found}
use Rattle.text_decimals.proofs.whole_length.Goals as goal

pub returns : goal.returns
returns c = let e = point_found c.args.text.now in cc
