-- `case_fields::list_field` meets its contract: it reads the field's value where the line has the field. Assumes nothing.
use Rattle.std.proofs.Common.{rules}
use mathlib.Core.Path.{sym, ◌∙◌}
use lib.ListN.{length}
use Rattle.case_lists.specs.Lists.{items}
use Rattle.case_fields.proofs.Found.{as_field, no_field, counted_within}
use Rattle.case_fields.proofs.list_field.Goals as goal

pub returns-then-has_field : goal.returns-then-has_field
returns-then-has_field g c =
    let a = c.args in
    let e = c.list_into.ensures in
    let there = sym c.has_field.ensures ∙ c.if-has_field.true in
    let r = as_field g.T.Item.is_item items g.T.Item.value_in a.key.now a.line.now a.room.now there c.field.ensures (e.value, e.out_after) in
    record { value = r.0; room_after = r.1; within = rw c.list_into.ensures.value (counted_within g.T.Item.is_item (items c.field.result.now) (length a.room.now)) }

pub returns-else-has_field : goal.returns-else-has_field
returns-else-has_field g c =
    let a = c.args in
    let r = no_field g.T.Item.is_item items g.T.Item.value_in a.key.now a.line.now a.room.now (sym c.has_field.ensures ∙ c.if-has_field.false) in
    record { value = r.0; room_after = r.1; within = search rules }
