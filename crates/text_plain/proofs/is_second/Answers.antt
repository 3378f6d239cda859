-- `text_plain::is_second` meets its contract: each way through the tests is a case of the definition. Assumes nothing.
use mathlib.Core.Path.{◌∙◌}
use borrow.Author.Tests.{ne_eqb}
use Rattle.text_plain.specs.Texts.{is_second}
use Rattle.text_plain.proofs.is_second.Goals as goal

pub returns-then-a-eq194 : goal.returns-then-a-eq194
unfolding is_second
returns-then-a-eq194 c = c.is_between.ensures ∙ rw c.if-a-eq194.true

pub returns-then-a-eq224 : goal.returns-then-a-eq224
unfolding is_second
returns-then-a-eq224 c = c.is_between-then-a-eq224.ensures ∙ rw c.if-a-eq224.true

pub returns-then-a-eq237 : goal.returns-then-a-eq237
unfolding is_second
returns-then-a-eq237 c = c.is_between-then-a-eq237.ensures ∙ rw c.if-a-eq237.true

pub returns-then-a-eq240 : goal.returns-then-a-eq240
unfolding is_second
returns-then-a-eq240 c = c.is_between-then-a-eq240.ensures ∙ rw c.if-a-eq240.true

pub returns-then-a-eq244 : goal.returns-then-a-eq244
unfolding is_second
returns-then-a-eq244 c = c.is_between-then-a-eq244.ensures ∙ rw c.if-a-eq244.true

pub returns : goal.returns
unfolding is_second
returns c = let a = c.args.a in
    c.is_between-2.ensures ∙ simp (ne_eqb a 194 c.if-a-eq194.false, ne_eqb a 224 c.if-a-eq224.false, ne_eqb a 237 c.if-a-eq237.false, ne_eqb a 240 c.if-a-eq240.false, ne_eqb a 244 c.if-a-eq244.false)
