-- `case_fields::text_field` meets its contract: it reads the field's value where the line has the field. Assumes nothing.
use mathlib.Core.Path.{sym, ◌∙◌}
use Rattle.case_lists.specs.Text.{signs, is_sign, byte_of}
use Rattle.case_fields.proofs.Found.{as_field, no_field}
use Rattle.case_fields.proofs.text_field.Goals as goal

pub returns-then-has_field : goal.returns-then-has_field
returns-then-has_field c =
    let a = c.args in
    let e = c.text_into.ensures in
    let there = sym c.has_field.ensures ∙ c.if-has_field.true in
    let r = as_field is_sign signs byte_of a.key.now a.line.now a.room.now there c.field.ensures (e.value, e.out_after) in
    record { value = r.0; room_after = r.1 }

pub returns-else-has_field : goal.returns-else-has_field
returns-else-has_field c =
    let a = c.args in
    let r = no_field is_sign signs byte_of a.key.now a.line.now a.room.now (sym c.has_field.ensures ∙ c.if-has_field.false) in
    record { value = r.0; room_after = r.1 }
