-- `run_system::system::run_system` meets its contract: the tables hold what their definitions say. Assumes nothing.
use mathlib.Core.Path.{◌∙◌, ap}
use mathlib.Core.Bool.{Bool, not}
use Rattle.bay_system.specs.System.{system_of}
use Rattle.ledger_row_choice.specs.declared.Bonds.{Bonds}
use Rattle.ledger_fill.specs.Handed.{run_scan}
use Rattle.bay_scan_order.specs.Scan.{window}
use Rattle.run_tables.specs.Tables.{bond_table, site_table}
use Rattle.run_system.proofs.RanOver.{ran_same}
use Rattle.run_system.proofs.system.run_system.Goals as goal

pub returns : goal.returns
returns c = let a = c.args in
    let s = system_of a.system.now in
    let majors = c.fill_bonds.ensures ∙ ap (bond_table s) c.by_rows-lines.ensures in
    let sides = c.fill_bonds-2.ensures ∙ ap (λ (b : Bool). bond_table s (not b)) c.by_rows-lines.ensures in
    ran_same (λ (bonds : Bonds). run_scan (window s.sizes.rows s.sizes.cols) a.scan.now (site_table s) bonds)
    s.sizes.rows s.sizes.cols c.run_sites.result a.layout.now _ a.energies.now _ a.notes.now _ majors sides c.run_sites.ensures
