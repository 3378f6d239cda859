-- `run_system::tables::run_over` meets its contract: the ledger's run, then the layout unless the sum is none. Assumes nothing.
use mathlib.Core.Path.{sym, subst}
use Prim.Native.Nat.{ℕ}
use lib.ListN.{length}
use Rattle.ledger_fill.specs.Handed.{Fillable}
use Rattle.run_system.proofs.RanOver.{some_bays, ran_bad, ran_good}
use Rattle.run_system.proofs.tables.run_over.Goals as goal

pub run-sum-requires : goal.run-sum-requires
run-sum-requires c =
    record {
      fillable = subst (λ (v : ℕ). Fillable v c.args.scan.now c.args.sites.now (length c.args.energies.now) (length c.args.notes.now)) (sym c.window.ensures) c.requires.fillable;
      sets_nonzero = (some_bays c.requires.on_board, c.requires.order_len);
    }

pub returns-then-is_bad : goal.returns-then-is_bad
returns-then-is_bad c = let a = c.args in
    ran_bad a.rows a.cols c.window.result a.scan.now a.sites.now a.bonds.now c.window.ensures c.requires.on_board.scanned
    c.run-sum.ensures a.layout.now c.is_bad.ensures c.if-is_bad.true

pub returns : goal.returns
returns c = let a = c.args in
    ran_good a.rows a.cols c.window.result a.scan.now a.sites.now a.bonds.now c.window.ensures c.requires.on_board.scanned
    c.run-sum.ensures a.layout.now _ c.is_bad.ensures c.if-is_bad.false c.lay_out.ensures
