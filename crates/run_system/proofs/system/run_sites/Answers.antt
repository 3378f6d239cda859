-- `run_system::system::run_sites` meets its contract: the energies of the bays stand at the front of their table. Assumes nothing.
use Prim.Native.Nat.{ℕ, ◌*◌, ◌/◌, ◌%◌}
use mathlib.Core.Path.{◌∙◌, ap, subst}
use mathlib.Core.List.{List}
use native.Mathlib.Nat.{mul-le-mul}
use native.Mathlib.Omega.{arith}
use lib.Ieee.{Float}
use lib.ListN.{take}
use Rattle.units.specs.Limits.{most_strands}
use Rattle.bay_system.specs.System.{system_of}
use Rattle.bay_scan_order.specs.Scan.{window, bay_at}
use Rattle.bay_legal.proofs.Fronts.{front_fits}
use Rattle.ledger_rows.specs.Scan.{Scan}
use Rattle.ledger_rows.proofs.Lists.{length_tab}
use Rattle.ledger_fill.specs.Handed.{run_scan}
use Rattle.run_tables.specs.Tables.{site_energy}
use Rattle.run_system.specs.Steps.{Ran}
use Rattle.run_system.proofs.Boards.{few_bays}
use Rattle.run_system.proofs.system.run_sites.Goals as goal

pub fill_sites-requires : goal.fill_sites-requires
fill_sites-requires c = let on = c.requires.on_board in
    record {
      readable = c.requires.readable;
      readable_bays = c.requires.readable_bays;
      most_strands_in_bounds = omega (arith, mul-le-mul on.few_rows on.few_cols);
    }

pub run_fronts-requires : goal.run_fronts-requires
run_fronts-requires c = let a = c.args in
    let on = c.requires.on_board in
    let s = system_of a.system.now in
    let count = s.sizes.rows * s.sizes.cols * most_strands in
    let long = length_tab (λ (i : ℕ). site_energy s (bay_at s.sizes.rows s.sizes.cols (i / most_strands)) (i % most_strands)) count in
    record {
      roomy = c.requires.roomy;
      on_board = on;
      scan_in_bounds = (few_bays on, omega (arith, front_fits count c.fill_sites.new.sites c.fill_sites.ensures long, on.scanned));
    }

pub returns : goal.returns
returns c = let a = c.args in
    let after = c.run_fronts.new in
    let z = a.system.now.sizes in
    let scan : List Float → Scan = λ sites. run_scan (window z.rows z.cols) a.scan.now sites a.bonds.now in
    subst
    (λ (sites : List Float). Ran (scan sites) z.rows z.cols c.run_fronts.result a.layout.now after.layout a.energies.now after.energies a.notes.now after.notes)
    (ap (λ (k : ℕ). take (k * most_strands) c.fill_sites.new.sites) c.requires.on_board.scanned ∙ c.fill_sites.ensures) c.run_fronts.ensures
