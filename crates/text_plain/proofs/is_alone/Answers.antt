-- `text_plain::is_alone` meets its contract. Assumes nothing.
use Rattle.text_plain.specs.Texts.{is_alone}
use Rattle.text_plain.proofs.is_alone.Goals as goal

pub returns : goal.returns
unfolding is_alone
returns c = cc
