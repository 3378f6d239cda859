-- From the finished run to a call's promises, over whatever may lie on each bay. Assumes nothing.
use Prim.Native.Nat.{ℕ}
use mathlib.Core.Path.{◌≡◌}
use mathlib.Core.Bool.{Bool}
use mathlib.Core.List.{List}
use lib.Ieee.{Float}
use lib.ListN.{length}
use Rattle.std.specs.Prelude.{Result, Err}
use Rattle.units.specs.declared.refusal.Refusal.{Refusal}
use Rattle.units.specs.Refusals.{Verdict, passes, ◌▷◌}
use Rattle.bay_system.specs.System.{System, bays}
use Rattle.bay_legal.specs.Sets.{sets_to, empty_verdict}
use Rattle.run_least_layout.specs.Run.{scan_by, need_by}
use Rattle.run_room.specs.Room.{room_verdict}
use Rattle.run_sets.specs.Finished.{Finished, FinishedBy}
use Rattle.run_sets.proofs.Finishing.{stop, past}
use Rattle.run_mfe.specs.RunBy.{early_by, answer_by, layout_by, energies_by, notes_by}

-- where a chain begins with a refusal, it is that
pub refused_first : {r : Refusal} (v w : Verdict) → v ≡ Err r → v ▷ w ≡ Err r
refused_first v w e = rw e

module _ (first : Verdict) (s : System) (may : ℕ → ℕ → Bool) where
  -- what a contract asks
  pub record PromisedBy (r : Result Float Refusal) (l₀ l₁ : List ℕ) (e₀ e₁ : List Float) (n₀ n₁ : List ℕ) : Type 0 where
    pub answer : r ≡ answer_by first s may (length e₀) (length n₀)
    pub layout : l₁ ≡ layout_by first s may (length e₀) (length n₀) l₀
    pub energies : e₁ ≡ energies_by first s may (length n₀) e₀
    pub notes : n₁ ≡ notes_by first s may (length e₀) n₀

  pub promised_by : {r : Result Float Refusal} {l₀ l₁ : List ℕ} (e₀ : List Float) {e₁ : List Float} (n₀ : List ℕ) {n₁ : List ℕ}
      → Finished (early_by first s may (length e₀) (length n₀)) (scan_by s may) s.sizes.rows s.sizes.cols s.sizes.kelvin r l₀ l₁ e₀ e₁ n₀ n₁
      → PromisedBy r l₀ l₁ e₀ e₁ n₀ n₁
  promised_by e₀ n₀ f = record { answer = f.answered; layout = f.laid; energies = f.energies; notes = f.notes }

  -- a call that was refused by the tests of what was given, and one that passed them
  pub refused_by : (l : List ℕ) (e : List Float) (n : List ℕ) {r : Refusal} → first ≡ Err r → PromisedBy (Err r) l l e e n n
  refused_by l e n f =
      let behind = empty_verdict s.sizes.rows s.sizes.cols (sets_to may (bays s.sizes)) ▷ room_verdict (need_by s may) (length e) (length n) in
      promised_by e n (stop (first ▷ behind) (scan_by s may) s.sizes.rows s.sizes.cols s.sizes.kelvin l e n (refused_first first behind f))

  pub passed_by : {r : Result Float Refusal} {l₀ l₁ : List ℕ} (e₀ : List Float) {e₁ : List Float} (n₀ : List ℕ) {n₁ : List ℕ} → first ≡ passes
      → FinishedBy (empty_verdict s.sizes.rows s.sizes.cols (sets_to may (bays s.sizes))) s may r l₀ l₁ e₀ e₁ n₀ n₁
      → PromisedBy r l₀ l₁ e₀ e₁ n₀ n₁
  passed_by e₀ n₀ p f =
      let behind = empty_verdict s.sizes.rows s.sizes.cols (sets_to may (bays s.sizes)) ▷ room_verdict (need_by s may) (length e₀) (length n₀) in
      promised_by e₀ n₀ (past first behind (scan_by s may) s.sizes.rows s.sizes.cols s.sizes.kelvin p f)
