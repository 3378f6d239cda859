-- THE THEOREM of the run: the layout of least energy is legal, no legal layout has a smaller scan sum, and 10 is given exactly when some legal layout's
-- scan sum is no energy. It holds of any strands that may lie on each bay, and rests on the theorem of the ledger. Assumes nothing.
use Prim.Native.Nat.{ℕ, ◌<◌}
use mathlib.Core.Path.{◌≡◌, sym, ◌∙◌, ap, subst}
use mathlib.Core.Bool.{Bool, true, false, not}
use mathlib.Core.List.{List}
use native.Mathlib.Omega.{arith}
use lib.Ieee.{Float, inf, lt, le}
use borrow.Author.Tests.{not-true, not-false}
use Rattle.floats.specs.Values.{Good, Bad}
use Rattle.bay_system.specs.System.{System}
use Rattle.energy_bays.specs.Energies.{is_bad}
use Rattle.energy_bays.proofs.Laws.{bad_is}
use Rattle.bay_lists.specs.Lists.{Constraints}
use Rattle.bay_legal_at.specs.Legal.{is_legal}
use Rattle.bay_legal_at.proofs.StrandBelow.{strand_below}
use Rattle.bay_legal.specs.Sets.{bays}
use Rattle.ledger_rows.specs.Scan.{Scan, Legal, EachHasStrand, scan_sum}
use Rattle.ledger_rows.specs.Trace.{layout}
use Rattle.ledger_rows.specs.LeastEnergyTheorem.{LeastEnergyTheorem}
use Rattle.ledger_rows.proofs.TheLedgerIsRight.{the_ledger_is_right}
use Rattle.run_least_layout.specs.Run.{scan_by, system_scan, least_sum_by, row_by_row}
use Rattle.run_least_layout.specs.Layouts.{LeastBy, LeastLayoutTheorem}
use Rattle.bay_legal_at.specs.Layouts.{LayoutBy}
use Rattle.energy_bays.specs.ScanSum.{scan_sum_of}
use Rattle.run_least_layout.proofs.Meaning.{rise_by}
use Rattle.run_least_layout.proofs.Fillings.{Fit, filling_to, filling_by, sum_by, layout_by, back_by}

-- the test of an energy is the order's
bad : (x : Float) → is_bad x ≡ true → Bad x
bad x e = not-true (lt (inf true) x) (sym (bad_is x) ∙ e)

good : (x : Float) → is_bad x ≡ false → Good x
good x e = not-false (lt (inf true) x) (sym (bad_is x) ∙ e)

of_bad : (x : Float) → Bad x → is_bad x ≡ true
of_bad x e = bad_is x ∙ ap not e

module _ (s : System) (may : ℕ → ℕ → Bool) (below : (b t : ℕ) → may b t ≡ true → t < s.sizes.strands) (fit : Fit s)
    (filled : EachHasStrand (scan_by s may) (bays s.sizes)) where
  abbrev z : Scan
  z = scan_by s may

  abbrev n : ℕ
  n = bays s.sizes

  pub ledger_by : LeastEnergyTheorem z n
  ledger_by = the_ledger_is_right z n filled (rise_by s may)

  -- a legal layout's scan sum is its filling's, and a legal filling's is its layout's
  layout_sum : (l : List ℕ) → LayoutBy s may l → scan_sum z (filling_to s l n) ≡ scan_sum_of s l
  layout_sum l legal = sum_by s may below fit l legal n (omega arith)

  laid_sum : (f : List ℕ) → Legal z n f → scan_sum_of s (row_by_row s.sizes.rows s.sizes.cols f) ≡ scan_sum z f
  laid_sum f legal = sym (layout_sum (row_by_row s.sizes.rows s.sizes.cols f) (layout_by s may below fit f legal)) ∙ ap (scan_sum z) (back_by s may below fit f legal)

  refused_by : is_bad (least_sum_by s may) ≡ true → (l : List ℕ) × LayoutBy s may l × (is_bad (scan_sum_of s l) ≡ true)
  refused_by e =
      let worst = ledger_by.refused.0 (bad (least_sum_by s may) e) in
      let f = worst.0 in
      (row_by_row s.sizes.rows s.sizes.cols f, layout_by s may below fit f worst.1, ap is_bad (laid_sum f worst.1) ∙ of_bad (scan_sum z f) worst.2)

  refused_if : ((l : List ℕ) × LayoutBy s may l × (is_bad (scan_sum_of s l) ≡ true)) → is_bad (least_sum_by s may) ≡ true
  refused_if w =
      let f = filling_to s w.0 n in
      of_bad (least_sum_by s may) (ledger_by.refused.1 (f, filling_by s may below fit w.0 w.1 n (omega arith), bad (scan_sum z f) (ap is_bad (layout_sum w.0 w.1) ∙ w.2)))

  pub right_by : LeastBy s may
  right_by =
      record {
        ledger = ledger_by;
        legal = layout_by s may below fit (layout z n) ledger_by.legal_layout;
        sum = laid_sum (layout z n) ledger_by.legal_layout ∙ ledger_by.answered_sum;
        no_smaller = λ e l legal.
            subst (λ (x : Float). le (least_sum_by s may) x ≡ true) (layout_sum l legal)
            (ledger_by.no_smaller (good (least_sum_by s may) e) (filling_to s l n) (filling_by s may below fit l legal n (omega arith)));
        refused = (refused_by, refused_if);
      }

-- ---- of the legal strands
module _ (s : System) (c : Constraints) (fit : Fit s) (filled : EachHasStrand (system_scan s c) (bays s.sizes)) where
  pub ledger : LeastEnergyTheorem (system_scan s c) (bays s.sizes)
  ledger = ledger_by s (is_legal s c) (strand_below s c) fit filled

  pub the_run_is_right : LeastLayoutTheorem s c
  the_run_is_right = right_by s (is_legal s c) (strand_below s c) fit filled
