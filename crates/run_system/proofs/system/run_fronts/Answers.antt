-- `run_system::system::run_fronts` meets its contract. Assumes nothing.
use Prim.Native.Nat.{◌*◌}
use mathlib.Core.Path.{sym}
use native.Mathlib.Omega.{arith}
use lib.ListN.{length}
use lib.Seq.{length-take-le}
use Rattle.units.specs.Limits.{most_strands}
use Rattle.run_system.proofs.system.run_fronts.Goals as goal

pub slice_bounds-run_over-end : goal.slice_bounds-run_over-end
slice_bounds-run_over-end c = sym (length-take-le (length c.args.scan.now * most_strands) c.args.sites.now c.requires.scan_in_bounds.1)

pub slice_bounds-run_over-end-3 : goal.slice_bounds-run_over-end-3
slice_bounds-run_over-end-3 c = sym (length-take-le (length c.args.scan.now) c.args.order.now c.requires.scan_in_bounds.0)

pub run_over-requires : goal.run_over-requires
run_over-requires c = let long = length-take-le (length c.args.scan.now * most_strands) c.args.sites.now c.requires.scan_in_bounds.1 in
    record {
      fillable = record { room = c.requires.roomy; bay_energies = omega (arith, long) };
      on_board = c.requires.on_board;
      order_len = length-take-le (length c.args.scan.now) c.args.order.now c.requires.scan_in_bounds.0;
    }
