-- `run_tables::sites::fill_sites` meets its contract. The invariant: the first i energies are written. Assumes nothing.
use Prim.Native.Nat.{ℕ, ◌*◌, ◌/◌, ◌%◌, ◌<◌}
use mathlib.Core.Path.{◌≡◌, ◌∙◌, ap}
use native.Mathlib.Nat.{mul-le-mul, div-lt_iff_lt-mul}
use native.Mathlib.Omega.{arith}
use lib.ListN.{length}
use lib.Seq.{length-take-le, take_at}
use Rattle.units.specs.Limits.{most_strands}
use Rattle.bay_system.specs.System.{system_of}
use Rattle.bay_scan_order.specs.Scan.{bay_at}
use Rattle.bay_scan_order.proofs.Scanned.{bay_inside}
use Rattle.run_tables.specs.Tables.{site_energy}
use Rattle.run_scan_tables.proofs.Written.{one_more, whole, none_yet}
use Rattle.run_tables.proofs.sites.fill_sites.Goals as goal

pub overflow_mul-end : goal.overflow_mul-end
overflow_mul-end c = omega (arith, (mul-le-mul c.requires.readable_bays.few_rows c.requires.readable_bays.few_cols))

pub overflow_mul-end-2 : goal.overflow_mul-end-2
overflow_mul-end-2 c = omega (arith, (mul-le-mul c.requires.readable_bays.few_rows c.requires.readable_bays.few_cols))

pub loop-i-init : goal.loop-i-init
loop-i-init c = none_yet _

pub bay_at-bay-requires : goal.bay_at-bay-requires
bay_at-bay-requires c = let bays = c.requires.readable_bays in
    let z = c.args.system.now.sizes in
    let sites : c.loop-i.i < z.rows * z.cols * most_strands =
    omega (arith, c.loop-i-test.true, length-take-le (z.rows * z.cols * most_strands) c.args.sites.now c.requires.most_strands_in_bounds) in
    (bays.few_rows, bays.few_cols, ((div-lt_iff_lt-mul {k = most_strands} (omega arith)).1 sites))

pub site_energy-requires : goal.site_energy-requires
site_energy-requires c = let z = c.args.system.now.sizes in
    let bays = c.requires.readable_bays in
    let sites : c.loop-i.i < z.rows * z.cols * most_strands =
    omega (arith, c.loop-i-test.true, length-take-le (z.rows * z.cols * most_strands) c.args.sites.now c.requires.most_strands_in_bounds) in
    record {
      readable = c.requires.readable;
      readable_bays = bays;
      bay_in_bounds = omega (arith, c.bay_at-bay.ensures, bay_inside z.rows z.cols (c.loop-i.i / most_strands) (((div-lt_iff_lt-mul {k = most_strands} (omega arith)).1 sites)), bays.bays);
    }

pub loop-i-preserved : goal.loop-i-preserved
loop-i-preserved c = let s = system_of c.args.system.now in
    let i = c.loop-i.i in
    one_more (λ (j : ℕ). site_energy s (bay_at s.sizes.rows s.sizes.cols (j / most_strands)) (j % most_strands)) c.loop-i.energy-items i c.loop-i.invariant (omega arith)
    (c.site_energy.ensures ∙ ap (λ (b : ℕ). site_energy s b (i % most_strands)) c.bay_at-bay.ensures)

pub returns : goal.returns
returns c = let s = system_of c.args.system.now in
    let end = s.sizes.rows * s.sizes.cols * most_strands in
    let long : length c.loop-i.energy-items ≡ end = c.loop-i.auto.energy-items ∙ length-take-le end c.args.sites.now c.requires.most_strands_in_bounds in
    take_at c.loop-i.energy-items _ end long
    ∙ whole (λ (j : ℕ). site_energy s (bay_at s.sizes.rows s.sizes.cols (j / most_strands)) (j % most_strands)) c.loop-i.energy-items c.loop-i.i end c.loop-i.invariant (omega arith) long
