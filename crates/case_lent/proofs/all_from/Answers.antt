-- `case_lent::all_from` meets its contract: the places before `from` are skipped. Assumes nothing.
use Rattle.std.proofs.Common.{rules, tests}
use Rattle.std.proofs.lemmas.Iterator.{YieldsList-from_slice}
use Rattle.std.proofs.lemmas.Iterator.Adapters.{YieldsList-from_skip}
use Rattle.std.proofs.lemmas.Iterator.Search.{all_from_yields_List}
use Rattle.case_lent.proofs.all_from.Goals as goal

pub returns : goal.returns
returns g c = let a = c.args in
    all_from_yields_List _ _ _ _ c.all.ensures.ran (YieldsList-from_skip a.from (YieldsList-from_slice a.table.now cc) (search rules)) (λ x b q k. search (rules, tests))
