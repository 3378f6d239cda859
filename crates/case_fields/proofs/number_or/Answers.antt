-- `case_fields::number_or` meets its contract: the number of the field that was found, or the other. Assumes nothing.
use mathlib.Core.Path.{sym, ◌∙◌}
use Rattle.case_fields.proofs.Found.{found_number, missing_number}
use Rattle.case_fields.proofs.number_or.Goals as goal

pub returns-then-has_field : goal.returns-then-has_field
returns-then-has_field c = let a = c.args in
    let there = sym c.has_field.ensures ∙ c.if-has_field.true in
    c.number.ensures ∙ found_number a.key.now a.line.now _ there c.field.ensures a.otherwise

pub returns : goal.returns
returns c = let a = c.args in
    missing_number a.key.now a.line.now (sym c.has_field.ensures ∙ c.if-has_field.false) a.otherwise
