-- `run_scan_tables::lay_out` meets its contract. The invariant: the bays before are laid out. Assumes nothing.
use Prim.Native.Nat.{ℕ, ◌*◌}
use mathlib.Core.Path.{◌≡◌, ◌∙◌, ap}
use native.Mathlib.Omega.{arith}
use lib.ListN.{length, get_or}
use Rattle.bay_scan_order.specs.Scan.{number_at}
use Rattle.run_scan_tables.proofs.Written.{one_more, whole, none_yet}
use Rattle.run_scan_tables.proofs.lay_out.Goals as goal

pub loop-bay-init : goal.loop-bay-init
loop-bay-init c = none_yet _

pub loop-bay-preserved : goal.loop-bay-preserved
loop-bay-preserved c = let order = c.args.order.now in
    one_more (λ (b : ℕ). get_or order (number_at c.args.rows c.args.cols b) 0) c.loop-bay.layout c.loop-bay.bay c.loop-bay.invariant (omega arith)
    (ap (λ (k : ℕ). get_or order k 0) c.number_at.ensures)

pub returns : goal.returns
returns c = let bays = c.args.rows * c.args.cols in
    let long : length c.loop-bay.layout ≡ bays = c.loop-bay.auto.layout ∙ c.requires.order_len.1 in
    whole (λ (b : ℕ). get_or c.args.order.now (number_at c.args.rows c.args.cols b) 0) c.loop-bay.layout c.loop-bay.bay bays c.loop-bay.invariant (omega arith) long
