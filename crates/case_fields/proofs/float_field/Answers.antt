-- `case_fields::float_field` meets its contract. Assumes nothing.
use mathlib.Core.Path.{ap, ◌∙◌}
use Rattle.text_digits.specs.Digits.{float_of}
use Rattle.case_fields.proofs.float_field.Goals as goal

pub returns : goal.returns
returns c = c.float.ensures ∙ ap float_of c.field.ensures
