-- `run_sets::run_scan` meets its contract: 8 or 9, or the run and its answer. Assumes nothing.
use Prim.Native.Nat.{ℕ, ◌*◌, ◌<◌}
use mathlib.Core.Path.{◌≡◌, sym, ◌∙◌, ap, subst}
use mathlib.Core.List.{List}
use lib.ListN.{length}
use Rattle.std.proofs.lemmas.Result.{err_from_is_err_and}
use Rattle.units.specs.Refusals.{Verdict}
use Rattle.bay_system.specs.System.{System, system_of}
use Rattle.bay_scan_order.specs.Scan.{window}
use Rattle.ledger_rows.specs.Blocks.{need}
use Rattle.ledger_fill.specs.Handed.{set_scan, capped}
use Rattle.run_tables.specs.Tables.{site_table}
use Rattle.run_room.specs.Room.{room_verdict}
use Rattle.run_least_layout.specs.Run.{bonds_of, table_scan}
use Rattle.run_sets.proofs.Finishing.{stop, finish, need_of, room_by_cap, some_window, roomy}
use Rattle.run_sets.proofs.run_scan.Goals as goal

-- what the rows that are counted are refused with is what the run's need is
room : (s : System) (scan : List ℕ) (energies notes : ℕ) {w n : ℕ} {v : Verdict} → w ≡ window s.sizes.rows s.sizes.cols → length scan ≡ s.sizes.rows * s.sizes.cols
    → n ≡ capped (need (set_scan w scan) (length scan)) → v ≡ room_verdict n energies notes
    → v ≡ room_verdict (need (table_scan s scan) (s.sizes.rows * s.sizes.cols)) energies notes
room s scan energies notes {w} is long count e =
    room_by_cap (need (table_scan s scan) (s.sizes.rows * s.sizes.cols)) energies notes
    (count ∙ ap capped (need_of s.sizes.rows s.sizes.cols w scan (site_table s) (bonds_of s) is long)) e

pub need-need-requires : goal.need-need-requires
need-need-requires c =
    record {
      window_nonzero = subst (λ (v : ℕ). 0 < v) (sym c.window.ensures) (some_window c.requires.on_board);
      each_has_strand = c.requires.each_has_strand;
    }

pub returns-in_err-check_room : goal.returns-in_err-check_room
returns-in_err-check_room c = let a = c.args in
    let s = system_of a.system.now in
    let z = s.sizes in
    let e = length a.energies.now in
    let n = length a.notes.now in
    let p = err_from_is_err_and c.from_residual.result c.from_residual.ensures.1 in
    rw (p.1, p.2)
    (stop (room_verdict (need (table_scan s a.scan.now) (z.rows * z.cols)) e n) (table_scan s a.scan.now) z.rows z.cols z.kelvin a.layout.now a.energies.now a.notes.now
    (sym (room s a.scan.now e n c.window.ensures c.requires.on_board.scanned c.need-need.ensures c.check_room.ensures) ∙ c.in_err-check_room.was))

pub run_system-sum-requires : goal.run_system-sum-requires
run_system-sum-requires c = let a = c.args in
    let s = system_of a.system.now in
    let z = s.sizes in
    let e = length a.energies.now in
    let n = length a.notes.now in
    record {
      readable = c.requires.readable;
      readable_bays = c.requires.readable_bays;
      roomy = roomy z.rows z.cols a.scan.now (site_table s) (bonds_of s) e n (length a.layout.now) c.requires.on_board c.requires.each_has_strand
          (sym (room s a.scan.now e n c.window.ensures c.requires.on_board.scanned c.need-need.ensures c.check_room.ensures) ∙ c.in_ok-check_room.was);
      on_board = c.requires.on_board;
    }

pub returns : goal.returns
returns c = let a = c.args in
    let s = system_of a.system.now in
    let z = s.sizes in
    let e = length a.energies.now in
    let n = length a.notes.now in
    finish (room_verdict (need (table_scan s a.scan.now) (z.rows * z.cols)) e n) (table_scan s a.scan.now) z.rows z.cols z.kelvin
    (sym (room s a.scan.now e n c.window.ensures c.requires.on_board.scanned c.need-need.ensures c.check_room.ensures) ∙ c.in_ok-check_room.was)
    c.run_system-sum.ensures c.answered.ensures
