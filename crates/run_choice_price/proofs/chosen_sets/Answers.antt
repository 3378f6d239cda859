-- `run_choice_price::chosen_sets` meets its contract: the sets are written, and one is written anew. Assumes nothing.
use mathlib.Core.Path.{◌∙◌}
use native.Mathlib.Nat.{mul-le-mul}
use native.Mathlib.Omega.{arith}
use lib.ListN.{length}
use lib.Seq.{drop-set-lt}
use Rattle.bay_system.specs.System.{system_of}
use Rattle.bay_lists.specs.Lists.{constraints_of}
use Rattle.bay_legal_at.specs.Legal.{is_legal}
use Rattle.bay_legal.proofs.Fronts.{front_fits, length_sets}
use Rattle.run_choice_price.specs.Choice.{chosen_legal}
use Rattle.run_choice_price.proofs.ChosenSets.{table_changed, there_word, elsewhere}
use Rattle.run_choice_price.proofs.chosen_sets.Goals as goal

pub base_allowed_tiles_at-permitted-requires : goal.base_allowed_tiles_at-permitted-requires
base_allowed_tiles_at-permitted-requires c =
    record {
      readable = c.requires.given.grid.readable;
      on_grid = c.requires.given.grid.on_grid c.args.bay c.requires.bay_in_bounds;
    }

pub offset_bounds-sets-bay : goal.offset_bounds-sets-bay
offset_bounds-sets-bay c = let g = c.requires.given in
    omega (arith, mul-le-mul g.few_rows g.few_cols, g.bay_count, c.requires.bay_in_bounds)

pub bounds-sets-bay : goal.bounds-sets-bay
bounds-sets-bay c = let s = system_of c.args.system.now in
    let count = length s.scaffold in
    let room = front_fits count c.fill_sets.new.sets c.fill_sets.ensures.sets (length_sets (is_legal s (constraints_of c.args.constraints.now)) count) in
    omega (arith, room, c.requires.bay_in_bounds)

pub returns : goal.returns
returns c = let a = c.args in
    let s = system_of a.system.now in
    let lists = constraints_of a.constraints.now in
    let count = length s.scaffold in
    record {
      sets =
          table_changed (is_legal s lists) (chosen_legal s lists a.bay a.strand) count a.bay c.both.result c.requires.bay_in_bounds
          (there_word s lists a.bay a.strand c.base_allowed_tiles_at-permitted.ensures c.only-alone.ensures c.both.ensures)
          (elsewhere s lists a.bay a.strand) c.fill_sets.new.sets c.fill_sets.ensures.sets;
      rest = drop-set-lt count c.fill_sets.new.sets a.bay c.both.result c.requires.bay_in_bounds ∙ c.fill_sets.ensures.rest;
    }
