-- `run_mfe::run_given` meets its contract: the sets are worked out aside, and the run over them. Assumes nothing.
use lib.ListN.{length}
use Rattle.bay_system.specs.System.{system_of}
use Rattle.bay_lists.specs.Lists.{constraints_of}
use Rattle.bay_legal_at.specs.Legal.{is_legal}
use Rattle.bay_given.proofs.Passed.{few_bays, asked}
use Rattle.run_mfe.proofs.Grids.{ready}
use Rattle.run_mfe.proofs.run_given.Goals as goal

pub fill_sets-requires : goal.fill_sets-requires
fill_sets-requires c = let a = c.args in
    let s = system_of a.system.now in
    let lists = constraints_of a.constraints.now in
    let lent = length a.layout.now in
    record { given = asked s lent lists c.requires; scaffold_in_bounds = few_bays s lent lists c.requires }

-- the table has the sets of what is legal by the constraints that were lent
pub run_found-requires : goal.run_found-requires
run_found-requires c = let a = c.args in
    let s = system_of a.system.now in
    let lists = constraints_of a.constraints.now in
    record { ready = ready s (length a.layout.now) lists c.requires; some_sets = (is_legal s lists, c.fill_sets.ensures.sets) }

pub returns : goal.returns
returns c = let a = c.args in
    c.run_found.ensures (is_legal (system_of a.system.now) (constraints_of a.constraints.now)) c.fill_sets.ensures.sets
