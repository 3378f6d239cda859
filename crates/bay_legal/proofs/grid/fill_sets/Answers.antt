-- `bay_legal::grid::fill_sets` meets its contract: one bay more at each step. Assumes nothing.
use Prim.Native.Nat.{◌<◌}
use mathlib.Core.Path.{refl}
use native.Mathlib.Omega.{arith}
use lib.ListN.{length, length-set}
use Rattle.bay_system.specs.System.{system_of}
use Rattle.bay_legal_at.specs.Legal.{is_legal}
use Rattle.bay_lists.specs.Lists.{constraints_of}
use Rattle.bay_legal.proofs.Fronts.{set_more, no_set, rest_stays}
use Rattle.bay_legal.proofs.grid.fill_sets.Goals as goal

pub loop-bay-init : goal.loop-bay-init
loop-bay-init c = (no_set _, refl, refl)

pub loop-bay-preserved : goal.loop-bay-preserved
loop-bay-preserved c = let own = is_legal (system_of c.args.system.now) (constraints_of c.args.constraints.now) in
    let room : c.loop-bay.bay < length c.loop-bay.sets = omega (arith, c.loop-bay-test.true, c.loop-bay.invariant.1, c.requires.scaffold_in_bounds) in (
      set_more own c.loop-bay.sets c.loop-bay.bay c.constrained_allowed_tiles_at.result c.loop-bay.invariant.0 room c.constrained_allowed_tiles_at.ensures,
      simp length-set c.loop-bay.invariant.1,
      rest_stays c.loop-bay.sets c.args.sets.now c.loop-bay.bay c.constrained_allowed_tiles_at.result c.loop-bay.invariant.2,
    )
