-- `run_mfe::run_found` meets its contract: 7, or the run over the sets. Assumes nothing.
use Prim.Native.Nat.{ℕ, ◌≤◌}
use mathlib.Core.Path.{◌≡◌, sym, ◌∙◌, ap, subst}
use mathlib.Core.Bool.{Bool}
use mathlib.Core.List.{List}
use lib.ListN.{length, take}
use lib.Seq.{length-take-le}
use Rattle.std.proofs.lemmas.Result.{err_from_is_err_and}
use Rattle.units.specs.Refusals.{Verdict, ◌▷◌}
use Rattle.bay_system.specs.System.{System, system_of, bays}
use Rattle.bay_legal.specs.Sets.{sets_to, empty_verdict}
use Rattle.run_room.specs.Room.{room_verdict}
use Rattle.run_least_layout.specs.Run.{scan_by, need_by}
use Rattle.run_sets.specs.Finished.{FinishedScan}
use Rattle.run_sets.proofs.Finishing.{stop, past}
use Rattle.run_mfe.specs.RunBy.{SetsBy}
use Rattle.run_mfe.proofs.Grids.{all_sets, table_room, in_scan, table_filled}
use Rattle.run_mfe.proofs.Promised.{refused_first}
use Rattle.run_mfe.proofs.run_found.Goals as goal

-- what the test for empty sets answers, by what made the sets
seven : (s : System) (may : ℕ → ℕ → Bool) (table : List ℕ) (n : ℕ) {v : Verdict} → n ≡ bays s.sizes → SetsBy may n table
    → v ≡ empty_verdict s.sizes.rows s.sizes.cols (take n table) → v ≡ empty_verdict s.sizes.rows s.sizes.cols (sets_to may (bays s.sizes))
seven s may table n count made e = e ∙ ap (λ (l : List ℕ). empty_verdict s.sizes.rows s.sizes.cols l) (all_sets s may table count made)

-- the front of the table, as long as there are bays
front_long : (s : System) (may : ℕ → ℕ → Bool) (table : List ℕ) (n : ℕ) → n ≡ bays s.sizes → SetsBy may n table → length (take n table) ≡ n
front_long s may table n count made = length-take-le n table (subst (λ (k : ℕ). k ≤ length table) (sym count) (table_room s may table count made))

pub slice_bounds-check_empty-end : goal.slice_bounds-check_empty-end
slice_bounds-check_empty-end c = let s = system_of c.args.system.now in
    sym (front_long s c.requires.some_sets.0 c.args.sets.now (length s.scaffold) c.requires.ready.stocked.bays c.requires.some_sets.1)

pub check_empty-requires : goal.check_empty-requires
check_empty-requires c = let s = system_of c.args.system.now in
    let r = c.requires.ready.stocked in
    (r.few_rows, r.few_cols, front_long s c.requires.some_sets.0 c.args.sets.now (length s.scaffold) r.bays c.requires.some_sets.1 ∙ r.bays)

pub returns-in_err-check_empty : goal.returns-in_err-check_empty
returns-in_err-check_empty c = λ may made.
    let a = c.args in
    let s = system_of a.system.now in
    let z = s.sizes in
    let empty = empty_verdict z.rows z.cols (sets_to may (bays z)) in
    let room = room_verdict (need_by s may) (length a.energies.now) (length a.notes.now) in
    let p = err_from_is_err_and c.from_residual.result c.from_residual.ensures.1 in
    rw (p.1, p.2)
    (stop (empty ▷ room) (scan_by s may) z.rows z.cols z.kelvin a.layout.now a.energies.now a.notes.now
    (refused_first empty room (sym (seven s may a.sets.now (length s.scaffold) c.requires.ready.stocked.bays made c.check_empty.ensures) ∙ c.in_err-check_empty.was)))

pub run_sets-requires : goal.run_sets-requires
run_sets-requires c = let a = c.args in
    let s = system_of a.system.now in
    let ready = c.requires.ready in
    let may = c.requires.some_sets.0 in
    let made = c.requires.some_sets.1 in
    let none = sym (seven s may a.sets.now (length s.scaffold) ready.stocked.bays made c.check_empty.ensures) ∙ c.in_ok-check_empty.was in
    record {
      readable = ready.readable;
      readable_bays = ready.stocked;
      each_has_strand = table_filled s may a.sets.now ready.stocked.bays made none;
      on_board = ready.board;
      cols_in_bounds = table_room s may a.sets.now ready.stocked.bays made;
    }

pub returns : goal.returns
returns c = λ may made.
    let a = c.args in
    let s = system_of a.system.now in
    let z = s.sizes in
    let empty = empty_verdict z.rows z.cols (sets_to may (bays z)) in
    let room = room_verdict (need_by s may) (length a.energies.now) (length a.notes.now) in
    let count = c.requires.ready.stocked.bays in
    let after = c.run_sets.new in
    past empty room (scan_by s may) z.rows z.cols z.kelvin
    (sym (seven s may a.sets.now (length s.scaffold) count made c.check_empty.ensures) ∙ c.in_ok-check_empty.was)
    (subst (λ (l : List ℕ). FinishedScan s l c.run_sets.result a.layout.now after.layout a.energies.now after.energies a.notes.now after.notes)
    (in_scan s may a.sets.now count made) c.run_sets.ensures)
