-- `bay_lists::Constraints::restricted` meets its contract: an empty list, or one that names strands. Assumes nothing.
use mathlib.Core.Path.{sym, ◌∙◌}
use borrow.Author.Tests.{eqb-true, eqb-false}
use Rattle.bay_lists.specs.Lists.{constraints_of, list_of}
use Rattle.bay_lists.proofs.Restricting.{kept_whole, kept_named}
use Rattle.bay_lists.proofs.Constraints.restricted.Goals as goal

pub returns-then-is_empty : goal.returns-then-is_empty
returns-then-is_empty c = let a = c.args in
    kept_whole a.set (list_of (constraints_of a.self.now) a.bay) c.ranges.set.fits c.bay_list-list.ensures
    (eqb-true _ _ (sym c.is_empty.ensures ∙ c.if-is_empty.true))

pub returns-else-is_empty : goal.returns-else-is_empty
returns-else-is_empty c = let a = c.args in
    kept_named a.set (list_of (constraints_of a.self.now) a.bay) c.bay_list-list.ensures
    (eqb-false _ _ (sym c.is_empty.ensures ∙ c.if-is_empty.false)) c.list_set.ensures c.both.ensures
