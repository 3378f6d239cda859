-- `text_plain::is_four` meets its contract. Assumes nothing.
use Rattle.text_plain.specs.Texts.{is_four}
use Rattle.text_plain.proofs.is_four.Goals as goal

pub returns : goal.returns
unfolding is_four
returns c = cc
