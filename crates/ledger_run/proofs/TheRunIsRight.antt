-- THE THEOREM for what a run is handed: wherever the run may be called, its ledger, its layout and its answer are the least-energy ones. Assumes nothing.
use mathlib.Core.Path.{◌≡◌}
use mathlib.Core.List.{List}
use Prim.Native.Nat.{ℕ}
use lib.Ieee.{Float}
use lib.ListN.{length, get_or}
use Rattle.ledger_rows.specs.Blocks.{need}
use Rattle.ledger_rows.specs.LeastEnergyTheorem.{LeastEnergyTheorem}
use Rattle.ledger_rows.proofs.TheLedgerIsRight.{the_ledger_is_right}
use Rattle.ledger_row_choice.specs.declared.Bonds.{Bonds}
use Rattle.ledger_fill.specs.Handed.{set_scan, run_scan, Fillable}
use Rattle.ledger_run.proofs.Running.{sets_rise, need_is}

module _ (window : ℕ) (sets : List ℕ) (bays : List Float) (bonds : Bonds) where
  pub the_run_is_right : (energies notes : ℕ) → Fillable window sets bays energies notes → LeastEnergyTheorem (run_scan window sets bays bonds) (length sets)
  the_run_is_right energies notes fit = the_ledger_is_right (run_scan window sets bays bonds) (length sets) fit.room.filled (λ k. sets_rise (get_or sets k 0))

  -- the need that is counted before the run is the need of the run
  pub the_need_is_right : need (set_scan window sets) (length sets) ≡ need (run_scan window sets bays bonds) (length sets)
  the_need_is_right = need_is window sets bays bonds (length sets)
