-- `text_decimals::is_formed` meets its contract. Assumes nothing.
use Rattle.text_decimals.proofs.Parts.{formed_is}
use Rattle.text_decimals.proofs.is_formed.Goals as goal

pub returns : goal.returns
returns c = formed_is c.args.text.now c.args.point c.requires c.byte_at.result c.byte_at.ensures c.places_after.result c.places_after.ensures
