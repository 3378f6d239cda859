-- `text::sign` meets its contract: each way out is a case of the definition. Assumes nothing.
use mathlib.Core.Path.{ap, ◌∙◌}
use Rattle.case_lists.specs.Text.{hidden_of}
use Rattle.case_lists.proofs.Signs.{sign_one, sign_other, sign_three}
use Rattle.case_lists.proofs.text.sign.Goals as goal

pub returns-then-part-eq1 : goal.returns-then-part-eq1
returns-then-part-eq1 c = c.plain.ensures ∙ sign_one c.args.part.now c.if-part-eq1.true

pub returns-then-part-ne3 : goal.returns-then-part-ne3
returns-then-part-ne3 c = sign_other c.args.part.now c.if-part-eq1.false c.if-part-ne3.true

pub returns : goal.returns
returns c = c.hidden.ensures ∙ ap hidden_of c.whole.ensures ∙ sign_three c.args.part.now c.if-part-ne3.false
