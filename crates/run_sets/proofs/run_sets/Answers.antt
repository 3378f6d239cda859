-- `run_sets::run_sets` meets its contract: the sets stand in scan order at the front of their table. Assumes nothing.
use Prim.Native.Nat.{ℕ, ◌*◌, ◌≤◌, ◌<◌}
use mathlib.Core.Path.{◌≡◌, sym, subst}
use mathlib.Core.List.{List}
use lib.ListN.{length, take, get_or}
use lib.Seq.{length-take-le}
use Rattle.bay_system.specs.System.{system_of}
use Rattle.bay_scan_order.specs.Scan.{bay_at, window}
use Rattle.bay_legal.proofs.Fronts.{front_fits}
use Rattle.ledger_rows.specs.Scan.{EachHasStrand}
use Rattle.ledger_rows.proofs.Lists.{length_tab}
use Rattle.ledger_fill.specs.Handed.{set_scan}
use Rattle.run_scan_tables.specs.Order.{scan_sets}
use Rattle.run_system.proofs.Boards.{few_bays, front_board}
use Rattle.run_sets.specs.Finished.{FinishedScan}
use Rattle.run_sets.proofs.run_sets.Goals as goal

-- the sets in scan order at the front of a table: it has that many places
room : (rows cols : ℕ) (sets scan : List ℕ) → take (rows * cols) scan ≡ scan_sets rows cols sets → rows * cols ≤ length scan
room rows cols sets scan e = front_fits (rows * cols) scan e (length_tab (λ (k : ℕ). get_or sets (bay_at rows cols k) 0) (rows * cols))

long : (rows cols : ℕ) (sets scan : List ℕ) → take (rows * cols) scan ≡ scan_sets rows cols sets → length (take (rows * cols) scan) ≡ rows * cols
long rows cols sets scan e = length-take-le (rows * cols) scan (room rows cols sets scan e)

pub fill_scan-requires : goal.fill_scan-requires
fill_scan-requires c = let on = c.requires.on_board in
    record {
      rows_le_most_side = (on.few_rows, on.few_cols);
      cols_in_bounds = (c.requires.cols_in_bounds, few_bays on);
    }

pub slice_bounds-scan-end : goal.slice_bounds-scan-end
slice_bounds-scan-end c = let a = c.args in
    room a.system.now.sizes.rows a.system.now.sizes.cols a.sets.now c.fill_scan.new.scan c.fill_scan.ensures

pub slice_bounds-run_scan-end : goal.slice_bounds-run_scan-end
slice_bounds-run_scan-end c = let a = c.args in
    sym (long a.system.now.sizes.rows a.system.now.sizes.cols a.sets.now c.fill_scan.new.scan c.fill_scan.ensures)

pub run_scan-requires : goal.run_scan-requires
run_scan-requires c = let a = c.args in
    let side = window a.system.now.sizes.rows a.system.now.sizes.cols in
    let each = subst (λ (l : List ℕ). EachHasStrand (set_scan side l) (a.system.now.sizes.rows * a.system.now.sizes.cols)) (sym c.fill_scan.ensures) c.requires.each_has_strand in
    let whole = long a.system.now.sizes.rows a.system.now.sizes.cols a.sets.now c.fill_scan.new.scan c.fill_scan.ensures in
    record {
      readable = c.requires.readable;
      readable_bays = c.requires.readable_bays;
      each_has_strand = λ k h. each k (subst (λ (n : ℕ). k < n) whole h);
      on_board = front_board c.requires.on_board whole;
    }

pub returns : goal.returns
returns c = let a = c.args in
    let lent = system_of a.system.now in
    let after = c.run_scan.new in
    subst
    (λ (l : List ℕ). FinishedScan lent l c.run_scan.result a.layout.now after.layout a.energies.now after.energies a.notes.now after.notes)
    c.fill_scan.ensures c.run_scan.ensures
