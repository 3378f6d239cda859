-- `run_scan_tables::fill_scan` meets its contract. The invariant: the first k sets of the scan are written. Assumes nothing.
use Prim.Native.Nat.{ℕ, ◌*◌}
use mathlib.Core.Path.{◌≡◌, ◌∙◌, ap}
use native.Mathlib.Omega.{arith}
use lib.ListN.{length, get_or}
use lib.Seq.{length-take-le, take_at}
use Rattle.bay_scan_order.specs.Scan.{bay_at}
use Rattle.run_scan_tables.proofs.Written.{one_more, whole, none_yet}
use Rattle.run_scan_tables.proofs.fill_scan.Goals as goal

pub loop-k-init : goal.loop-k-init
loop-k-init c = none_yet _

pub loop-k-preserved : goal.loop-k-preserved
loop-k-preserved c = let sets = c.args.sets.now in
    one_more (λ (j : ℕ). get_or sets (bay_at c.args.rows c.args.cols j) 0) c.loop-k.set-items c.loop-k.k c.loop-k.invariant (omega arith)
    (ap (λ (b : ℕ). get_or sets b 0) c.bay_at.ensures)

pub returns : goal.returns
returns c = let bays = c.args.rows * c.args.cols in
    let long : length c.loop-k.set-items ≡ bays = c.loop-k.auto.set-items ∙ length-take-le bays c.args.scan.now c.requires.cols_in_bounds.1 in
    take_at c.loop-k.set-items _ bays long
    ∙ whole (λ (j : ℕ). get_or c.args.sets.now (bay_at c.args.rows c.args.cols j) 0) c.loop-k.set-items c.loop-k.k bays c.loop-k.invariant (omega arith) long
