-- `run_choice_price::run_chosen` meets its contract: the sets are worked out aside, and the run over them. Assumes nothing.
use Prim.Native.Nat.{ℕ, ◌<◌}
use mathlib.Core.Path.{sym, subst}
use lib.ListN.{length}
use Rattle.bay_system.specs.System.{system_of}
use Rattle.bay_lists.specs.Lists.{constraints_of}
use Rattle.bay_given.proofs.Passed.{is_fine, few_bays, asked}
use Rattle.run_mfe.proofs.Grids.{ready}
use Rattle.run_choice_price.specs.Choice.{chosen_legal}
use Rattle.run_choice_price.proofs.Choices.{given_passes, inside}
use Rattle.run_choice_price.proofs.run_chosen.Goals as goal

pub chosen_sets-requires : goal.chosen_sets-requires
chosen_sets-requires c = let a = c.args in
    let s = system_of a.system.now in
    let lists = constraints_of a.constraints.now in
    let lent = length a.layout.now in
    let given = given_passes s lent lists a.bay c.requires in
    record {
      given = asked s lent lists given;
      scaffold_in_bounds = few_bays s lent lists given;
      bay_in_bounds = subst (λ (n : ℕ). a.bay < n) (sym (is_fine s lent lists given).shape.scaffold) (inside s lent lists a.bay c.requires);
    }

-- the table has the sets of what may lie on each bay by the constraints that were lent
pub run_found-requires : goal.run_found-requires
run_found-requires c = let a = c.args in
    let s = system_of a.system.now in
    let lists = constraints_of a.constraints.now in
    let lent = length a.layout.now in
    record {
      ready = ready s lent lists (given_passes s lent lists a.bay c.requires);
      some_sets = (chosen_legal s lists a.bay a.strand, c.chosen_sets.ensures.sets);
    }

pub returns : goal.returns
returns c = let a = c.args in
    c.run_found.ensures (chosen_legal (system_of a.system.now) (constraints_of a.constraints.now) a.bay a.strand) c.chosen_sets.ensures.sets
