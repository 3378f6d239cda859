-- `case_parts::text_between` meets its contract: it reads to the part's front, and the part goes back. Assumes nothing.
use Rattle.case_lists.specs.Text.{signs, is_sign, byte_of}
use Rattle.case_parts.proofs.Between.{as_between}
use Rattle.case_parts.proofs.text_between.Goals as goal

pub returns : goal.returns
returns c =
    let a = c.args in
    let e = c.text_field.ensures in
    let p = as_between is_sign byte_of signs a.key.now a.line.now a.from a.to a.room.now c.least-end.ensures c.least-start.ensures (e.value, e.room_after) in
    record { count = p.0; table = p.1 }
