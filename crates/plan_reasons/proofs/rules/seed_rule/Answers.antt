-- `plan_reasons::rules::seed_rule` meets its contract. Assumes nothing.
use borrow.Author.Tests.{eq-eqb, ne_eqb}
use Rattle.plan_reasons.proofs.rules.seed_rule.Goals as goal

pub returns-then-strand-seed : goal.returns-then-strand-seed
returns-then-strand-seed c = rw (eq-eqb _ _ c.if-strand-seed.true) c.list_rule.ensures

pub returns : goal.returns
returns c = rw (ne_eqb _ _ c.if-strand-seed.false)
