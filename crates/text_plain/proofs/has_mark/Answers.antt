-- `text_plain::has_mark` meets its contract. Assumes nothing.
use Rattle.text_plain.specs.Texts.{has_mark}
use Rattle.text_plain.proofs.has_mark.Goals as goal

pub returns : goal.returns
unfolding has_mark
returns c = cc
