-- `case_parts::list_between` meets its contract: it reads to the part's front, and the part goes back. Assumes nothing.
use Rattle.case_lists.specs.Lists.{items}
use Rattle.case_parts.proofs.Between.{as_between}
use Rattle.case_parts.proofs.list_between.Goals as goal

pub returns : goal.returns
returns g c =
    let a = c.args in
    let e = c.list_field.ensures in
    let p = as_between g.T.Item.is_item g.T.Item.value_in items a.key.now a.line.now a.from a.to a.room.now c.least-end.ensures c.least-start.ensures (e.value, e.room_after) in
    record { count = p.0; table = p.1 }
