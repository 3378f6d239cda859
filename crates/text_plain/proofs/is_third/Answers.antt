-- `text_plain::is_third` meets its contract: each way through the tests is a case of the definition. Assumes nothing.
use mathlib.Core.Path.{◌∙◌}
use borrow.Author.Tests.{ne_eqb, eq-eqb}
use Rattle.text_plain.specs.Texts.{is_third}
use Rattle.text_plain.proofs.is_third.Goals as goal

pub returns-then-a-ne239 : goal.returns-then-a-ne239
unfolding is_third
returns-then-a-ne239 c = c.is_between.ensures ∙ rw (ne_eqb _ _ c.if-a-ne239.true)

pub returns-then-b-ne191 : goal.returns-then-b-ne191
unfolding is_third
returns-then-b-ne191 c = c.is_between-then-b-ne191.ensures ∙ rw (eq-eqb _ _ c.if-a-ne239.false, ne_eqb _ _ c.if-b-ne191.true)

pub returns : goal.returns
unfolding is_third
returns c = c.is_between-2.ensures ∙ rw (eq-eqb _ _ c.if-a-ne239.false, eq-eqb _ _ c.if-b-ne191.false)
