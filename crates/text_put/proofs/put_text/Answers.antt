-- `text_put::put_text` meets its contract: as much of the text as has room is copied to the place. Assumes nothing.
use Rattle.text_put.proofs.Putting.{put_nowhere, place_nowhere, copied, place_copied}
use Rattle.text_put.proofs.put_text.Goals as goal

pub returns-then-out-at : goal.returns-then-out-at
returns-then-out-at c = let a = c.args in
    record { place = place_nowhere a.out.now a.at a.text.now c.if-out-at.true; slice = put_nowhere a.out.now a.at a.text.now c.if-out-at.true }

pub returns : goal.returns
returns c = let a = c.args in
    record {
      place = place_copied a.out.now a.at a.text.now c.min-room.result c.min-room.ensures c.if-out-at.false;
      slice = copied a.out.now a.at a.text.now c.min-room.result c.min-room.ensures _ c.copy_from_slice.ensures.after;
    }
