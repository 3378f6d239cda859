-- `text_energy::put_pointed` meets its contract. Assumes nothing.
use Rattle.text_put.proofs.Putting.{put_as, then_put}
use Rattle.text_energy.proofs.put_pointed.Goals as goal

pub returns : goal.returns
returns c = let a = c.args in
    put_as (rw (c.glyph.ensures, c.glyph-2.ensures)) (then_put c.put_number-point.ensures c.put_text.ensures)
