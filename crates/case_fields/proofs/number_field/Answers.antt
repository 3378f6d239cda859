-- `case_fields::number_field` meets its contract. Assumes nothing.
use Prim.Native.Nat.{◌^◌}
use mathlib.Core.Path.{ap, ◌∙◌}
use Rattle.text_digits.specs.Digits.{number_of}
use Rattle.case_fields.proofs.number_field.Goals as goal

pub returns : goal.returns
returns c = c.number.ensures ∙ ap (number_of (2 ^ 64)) c.field.ensures
