-- `sheet_files::put_path` meets its contract: three texts put one after the other are one. Assumes nothing.
use mathlib.Core.List.{[], ◌∷◌, append_assoc}
use Rattle.text_put.proofs.Putting.{put_as, then_put}
use Rattle.sheet_files.proofs.put_path.Goals as goal

pub returns : goal.returns
returns c = let a = c.args in
    put_as (append_assoc a.folder.now (47 ∷ []) a.name.now) (then_put (then_put c.put_text-slash.ensures c.put_text-from.ensures) c.put_text.ensures)
