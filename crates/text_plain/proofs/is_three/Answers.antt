-- `text_plain::is_three` meets its contract. Assumes nothing.
use Rattle.text_plain.specs.Texts.{is_three}
use Rattle.text_plain.proofs.is_three.Goals as goal

pub returns : goal.returns
unfolding is_three
returns c = cc
