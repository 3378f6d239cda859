-- `text_plain::is_between` meets its contract. Assumes nothing.
use Rattle.text_plain.specs.Texts.{is_between}
use Rattle.text_plain.proofs.is_between.Goals as goal

pub returns : goal.returns
unfolding is_between
returns c = cc
