-- From what the ledger's run answers and leaves to what the run over a grid does. Assumes nothing.
use Prim.Native.Nat.{ℕ, ◌*◌, ◌<◌}
use mathlib.Core.Path.{◌≡◌, sym, ◌∙◌, ap, ap₂, subst}
use mathlib.Core.Bool.{Bool, true, false, not, cond}
use mathlib.Core.List.{List}
use native.Mathlib.Nat.{mul-pos}
use lib.Ieee.{Float, inf, lt, binary64, of_bits}
use lib.ListN.{length, get_or}
use borrow.Author.Tests.{not-true, not-false}
use Rattle.energy_bays.specs.Energies.{is_bad}
use Rattle.energy_bays.proofs.Laws.{bad_is}
use Rattle.bay_scan_order.specs.Scan.{window, number_at}
use Rattle.ledger_rows.specs.Scan.{Scan}
use Rattle.ledger_rows.specs.Blocks.{tab, energy_table, note_table}
use Rattle.ledger_rows.specs.Trace.{answer, answer_row, layout}
use Rattle.ledger_row_choice.specs.declared.Bonds.{Bonds}
use Rattle.ledger_fill.specs.Handed.{run_scan}
use Rattle.ledger_way_back.specs.Tracing.{in_order}
use Rattle.ledger_run.specs.Run.{if_answered, table_left, LedgerRan}
use Rattle.run_least_layout.specs.Run.{row_by_row}
use Rattle.run_system.specs.Steps.{OnBoard, Ran}
use Rattle.run_system.proofs.Ordered.{length_trace, laid_out}

pub some_bays : {rows cols scan lent : ℕ} → OnBoard rows cols scan lent → 0 < scan
some_bays on = subst (λ (n : ℕ). 0 < n) (sym on.scanned) (mul-pos on.some_rows on.some_cols)

module _ (rows cols w : ℕ) (scan : List ℕ) (sites : List Float) (bonds : Bonds) (is : w ≡ window rows cols) (long : length scan ≡ rows * cols) where
  abbrev z : Scan
  z = run_scan (window rows cols) scan sites bonds

  abbrev given : Scan
  given = run_scan w scan sites bonds

  -- the window and the count as the code has them
  as_is : {A : Type 0} (f : Scan → ℕ → A) → f given (length scan) ≡ f z (rows * cols)
  as_is f = ap (λ (v : ℕ). f (run_scan v scan sites bonds) (length scan)) is ∙ ap (f z) long

  module _ {r : Float} {o₀ o₁ : List ℕ} {e₀ e₁ : List Float} {n₀ n₁ : List ℕ} (ran : LedgerRan given (length scan) r o₀ o₁ e₀ e₁ n₀ n₁) where
    sum_is : r ≡ answer z (rows * cols)
    sum_is = ran.sum ∙ as_is answer

    energies_are : e₁ ≡ table_left z (rows * cols) (of_bits binary64 0) (energy_table z (rows * cols)) e₀
    energies_are = ran.energies ∙ as_is (λ x n. table_left x n (of_bits binary64 0) (energy_table x n) e₀)

    notes_are : n₁ ≡ table_left z (rows * cols) 0 (note_table z (rows * cols)) n₀
    notes_are = ran.notes ∙ as_is (λ x n. table_left x n 0 (note_table x n) n₀)

    tested : {b : Bool} → b ≡ is_bad r → not (lt (inf true) (answer z (rows * cols))) ≡ b
    tested e = sym (bad_is (answer z (rows * cols))) ∙ ap is_bad (sym sum_is) ∙ sym e

    pub ran_bad : (old : List ℕ) {b : Bool} → b ≡ is_bad r → b ≡ true → Ran z rows cols r old old e₀ e₁ n₀ n₁
    ran_bad old e t =
        record {
          sum = sum_is;
          laid = sym (ap (λ (g : Bool). cond g (row_by_row rows cols (layout z (rows * cols))) old) (not-true (lt (inf true) (answer z (rows * cols))) (tested e ∙ t)));
          energies = energies_are;
          notes = notes_are;
        }

    pub ran_good : (old new : List ℕ) {b : Bool} → b ≡ is_bad r → b ≡ false → new ≡ tab (λ (bay : ℕ). get_or o₁ (number_at rows cols bay) 0) (rows * cols)
        → Ran z rows cols r old new e₀ e₁ n₀ n₁
    ran_good old new e t l =
        let good = not-false (lt (inf true) (answer z (rows * cols))) (tested e ∙ t) in
        let ordered : o₁ ≡ in_order (layout z (rows * cols)) =
        ran.order ∙ as_is (λ x n. if_answered x n (in_order (layout x n)) o₀) ∙ ap (λ (g : Bool). cond g (in_order (layout z (rows * cols))) o₀) good in
        record {
          sum = sum_is;
          laid =
              l ∙ ap (λ (o : List ℕ). tab (λ (bay : ℕ). get_or o (number_at rows cols bay) 0) (rows * cols)) ordered
              ∙ laid_out rows cols (layout z (rows * cols)) (length_trace z (rows * cols) (answer_row z (rows * cols)).who)
              ∙ sym (ap (λ (g : Bool). cond g (row_by_row rows cols (layout z (rows * cols))) old) good);
          energies = energies_are;
          notes = notes_are;
        }

-- the tables of bonds by what they hold
pub ran_same : (scan : Bonds → Scan) (rows cols : ℕ) (r : Float) (l₀ l₁ : List ℕ) (e₀ e₁ : List Float) (n₀ n₁ : List ℕ) {bonds bonds' : Bonds}
    → bonds.major ≡ bonds'.major → bonds.side ≡ bonds'.side → Ran (scan bonds) rows cols r l₀ l₁ e₀ e₁ n₀ n₁ → Ran (scan bonds') rows cols r l₀ l₁ e₀ e₁ n₀ n₁
ran_same scan rows cols r l₀ l₁ e₀ e₁ n₀ n₁ m s ran =
    subst (λ (b : Bonds). Ran (scan b) rows cols r l₀ l₁ e₀ e₁ n₀ n₁) (ap₂ (λ (x y : List Float). record { major = x; side = y }) m s) ran
