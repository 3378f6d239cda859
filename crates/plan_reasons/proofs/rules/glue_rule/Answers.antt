-- `plan_reasons::rules::glue_rule` meets its contract: strand 0, a strand that binds, or one that does not. Assumes nothing.
use mathlib.Core.Path.{sym, ◌∙◌}
use borrow.Author.Tests.{eq-eqb, ne_eqb}
use Rattle.plan_reasons.proofs.rules.glue_rule.Goals as goal

pub returns-then-strand-eq0 : goal.returns-then-strand-eq0
returns-then-strand-eq0 c = rw (eq-eqb _ _ c.if-strand-eq0.true) c.list_rule.ensures

pub returns-then-binds : goal.returns-then-binds
returns-then-binds c = rw (ne_eqb _ _ c.if-strand-eq0.false, sym c.binds.ensures ∙ c.if-binds.true) c.list_rule-then-binds.ensures

pub returns : goal.returns
returns c = rw (ne_eqb _ _ c.if-strand-eq0.false, sym c.binds.ensures ∙ c.if-binds.false)
