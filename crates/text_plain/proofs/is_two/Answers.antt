-- `text_plain::is_two` meets its contract. Assumes nothing.
use Rattle.text_plain.specs.Texts.{is_two}
use Rattle.text_plain.proofs.is_two.Goals as goal

pub returns : goal.returns
unfolding is_two
returns c = cc
