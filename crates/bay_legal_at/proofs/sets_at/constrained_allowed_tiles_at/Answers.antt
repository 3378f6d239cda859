-- `bay_legal_at::sets_at::constrained_allowed_tiles_at` meets its contract: its list keeps some of what the bay permits. Assumes nothing.
use Rattle.bay_system.specs.System.{system_of}
use Rattle.bay_lists.proofs.Restricting.{kept_of}
use Rattle.bay_legal_at.specs.Legal.{is_permitted}
use Rattle.bay_lists.specs.Lists.{constraints_of, list_of, list_allows}
use Rattle.bay_legal_at.proofs.sets_at.constrained_allowed_tiles_at.Goals as goal

pub returns : goal.returns
returns c = let a = c.args in
    kept_of (is_permitted (system_of a.system.now) a.bay) (list_allows (list_of (constraints_of a.constraints.now) a.bay))
    c.base_allowed_tiles_at-permitted.ensures c.restricted.ensures
