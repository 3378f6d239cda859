-- `plan_reasons::bays::list_reason` meets its contract. Assumes nothing.
use mathlib.Core.Path.{sym, ◌∙◌}
use borrow.Author.Tests.{eqb-true, eqb-false}
use Rattle.plan_reasons.proofs.Chains.{free_list, some_list}
use Rattle.plan_reasons.proofs.bays.list_reason.Goals as goal

pub returns-then-is_empty : goal.returns-then-is_empty
returns-then-is_empty c = free_list c.args.list.now (eqb-true _ _ (sym c.is_empty.ensures ∙ c.if-is_empty.true))

pub returns-then-only_zeros : goal.returns-then-only_zeros
returns-then-only_zeros c = some_list c.args.list.now (eqb-false _ _ (sym c.is_empty.ensures ∙ c.if-is_empty.false)) (sym c.only_zeros.ensures ∙ c.if-only_zeros.true)

pub returns : goal.returns
returns c = some_list c.args.list.now (eqb-false _ _ (sym c.is_empty.ensures ∙ c.if-is_empty.false)) (sym c.only_zeros.ensures ∙ c.if-only_zeros.false)
