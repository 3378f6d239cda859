-- `ledger_run::run` meets its contract: the ledger is filled, its least row is the answer, and the way back is the layout, unless the answer is bad. Assumes nothing.
use mathlib.Core.Path.{◌≡◌, sym, ap, ◌∙◌, subst}
use mathlib.Core.Bool.{true, false}
use mathlib.Core.List.{List}
use Prim.Native.Nat.{ℕ, ◌<◌}
use native.Mathlib.Omega.{arith}
use lib.Ieee.{Float, inf, lt}
use lib.ListN.{length}
use borrow.Author.Tests.{not-true, not-false}
use Rattle.floats.specs.declared.Choice.{Choice}
use Rattle.ledger_block.specs.declared.Stretch.{Stretch}
use Rattle.ledger_row_choice.specs.declared.Bonds.{Bonds}
use Rattle.ledger_fill.specs.Handed.{run_scan, Fillable}
use Rattle.ledger_fill.specs.Last.{LedgerFilled}
use Rattle.ledger_run.proofs.Running.{OnceFilled, last_in_order, last_energies, last_notes, filled_long, last_some, answer_is, noted_long, traceable, answer_place, answer_row_in, traced_order, ran_bad, ran_good}
use Rattle.ledger_run.proofs.run.Goals as goal

-- what is known behind the fill
ran : {window : ℕ} {sets : List ℕ} {bays : List Float} {bonds : Bonds} {energies : List Float} {notes : List ℕ} {last : Stretch} {filled : List Float} {noted : List ℕ}
    → Fillable window sets bays (length energies) (length notes) → 0 < length sets
    → LedgerFilled (run_scan window sets bays bonds) (length sets) last energies filled notes noted
    → OnceFilled window sets bays bonds energies notes last filled noted
ran fit some done = record { some = some; fit = fit; done = done }

pub offset_bounds-energies-last : goal.offset_bounds-energies-last
offset_bounds-energies-last c = let r = ran c.requires.fillable c.requires.sets_nonzero.0 c.fill-last.ensures in
    omega (arith, last_in_order r, last_energies r)

pub slice_bounds-least_row-count : goal.slice_bounds-least_row-count
slice_bounds-least_row-count c = last_in_order (ran c.requires.fillable c.requires.sets_nonzero.0 c.fill-last.ensures)

pub slice_bounds-least_row-start : goal.slice_bounds-least_row-start
slice_bounds-least_row-start c = last_in_order (ran c.requires.fillable c.requires.sets_nonzero.0 c.fill-last.ensures)

pub slice_bounds-least_row-end : goal.slice_bounds-least_row-end
slice_bounds-least_row-end c = let r = ran c.requires.fillable c.requires.sets_nonzero.0 c.fill-last.ensures in
    omega (arith, last_energies r, filled_long r)

pub least_row-best-requires : goal.least_row-best-requires
least_row-best-requires c = last_some (ran c.requires.fillable c.requires.sets_nonzero.0 c.fill-last.ensures)

pub clear-requires : goal.clear-requires
clear-requires c = let r = ran c.requires.fillable c.requires.sets_nonzero.0 c.fill-last.ensures in
    omega (arith, last_energies r, filled_long r)

pub clear-requires-then-is_bad : goal.clear-requires-then-is_bad
clear-requires-then-is_bad c = let r = ran c.requires.fillable c.requires.sets_nonzero.0 c.fill-last.ensures in
    omega (arith, last_notes r, noted_long r)

pub returns-then-is_bad : goal.returns-then-is_bad
returns-then-is_bad c = let r = ran c.requires.fillable c.requires.sets_nonzero.0 c.fill-last.ensures in
    let e = ap (λ (b : Choice). b.energy) (answer_is r c.least_row-best.result c.least_row-best.ensures) in
    let no = subst (λ x. lt (inf true) x ≡ false) e (not-true _ (sym c.is_bad.ensures ∙ c.if-is_bad.true)) in
    ran_bad r c.args.order.now e no c.clear.ensures c.clear-then-is_bad.ensures

pub overflow_sub-at : goal.overflow_sub-at
overflow_sub-at c = last_in_order (ran c.requires.fillable c.requires.sets_nonzero.0 c.fill-last.ensures)

pub trace-requires : goal.trace-requires
trace-requires c = let r = ran c.requires.fillable c.requires.sets_nonzero.0 c.fill-last.ensures in
    let best = answer_is r c.least_row-best.result c.least_row-best.ensures in
    record {
      traceable = traceable r;
      order_len = c.requires.sets_nonzero.1;
      on_block = (answer_place r _ best, answer_row_in r _ best);
    }

pub returns : goal.returns
returns c = let r = ran c.requires.fillable c.requires.sets_nonzero.0 c.fill-last.ensures in
    let best = answer_is r c.least_row-best.result c.least_row-best.ensures in
    let e = ap (λ (b : Choice). b.energy) best in
    let ok = subst (λ x. lt (inf true) x ≡ true) e (not-false _ (sym c.is_bad.ensures ∙ c.if-is_bad.false)) in
    ran_good r c.args.order.now e ok (traced_order r _ best c.args.order.now _ c.trace.ensures ok)
