-- `sheet_fields::field_at` meets its contract: the first byte says which kind of field it is. Assumes nothing.
use mathlib.Core.Path.{sym, ◌∙◌}
use Rattle.sheet_fields.specs.Fields.{field}
use Rattle.sheet_fields.proofs.Scanning.{quote_within, quote_first, other_first}
use Rattle.sheet_fields.proofs.field_at.Goals as goal

pub quoted_field-requires : goal.quoted_field-requires
quoted_field-requires c = let a = c.args in quote_within a.text.now a.at (sym c.byte_at.ensures ∙ c.if-byte_at-eq34.true)

pub returns-then-byte_at-eq34 : goal.returns-then-byte_at-eq34
unfolding field
returns-then-byte_at-eq34 c = let a = c.args in
    rw (quote_first a.text.now a.at (sym c.byte_at.ensures ∙ c.if-byte_at-eq34.true)) c.quoted_field.ensures

pub returns-else-byte_at-eq34 : goal.returns-else-byte_at-eq34
unfolding field
returns-else-byte_at-eq34 c = let a = c.args in
    rw (other_first a.text.now a.at (λ e. c.if-byte_at-eq34.false (c.byte_at.ensures ∙ e))) c.bare_field.ensures
