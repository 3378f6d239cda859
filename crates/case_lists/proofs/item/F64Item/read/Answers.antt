-- `item::F64Item::read` meets its contract. Assumes nothing.
use Rattle.text_digits.specs.Digits.{float_of}
use Rattle.case_lists.proofs.item.F64Item.read.Goals as goal

pub returns : goal.returns
unfolding float_of
returns c = c.float.ensures
