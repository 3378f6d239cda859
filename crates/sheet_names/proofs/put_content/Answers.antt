-- `sheet_names::put_content` meets its contract. Assumes nothing.
use Rattle.text_put.proofs.Putting.{put_as}
use Rattle.sheet_names.proofs.Filling.{content_at}
use Rattle.sheet_names.proofs.put_content.Goals as goal

pub returns : goal.returns
returns c = let a = c.args in
    put_as (content_at a.text.now a.at c.field_or_empty.result c.field_or_empty.ensures) (rw c.raw.ensures at c.put_unquoted.ensures)
