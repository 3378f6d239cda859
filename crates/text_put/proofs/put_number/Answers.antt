-- `text_put::put_number` meets its contract: the digits that `io` makes are the number's text. Assumes nothing.
use mathlib.Core.Path.{◌∙◌}
use Rattle.text_put.proofs.Putting.{put_as}
use Rattle.text_put.proofs.Spelling.{number_text_lem}
use Rattle.text_put.proofs.put_number.Goals as goal

pub returns : goal.returns
returns c = let a = c.args in
    let spelt = c.decimal-k.ensures in
    let text = spelt.digits ∙ number_text_lem a.n c.decimal-k.result spelt.len c.ranges.n.fits in
    put_as text c.put_text.ensures
