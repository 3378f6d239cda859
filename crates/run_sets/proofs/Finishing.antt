-- From a run's steps to its answer and to what it leaves. Assumes nothing.
use Prim.Native.Nat.{ℕ, ◌+◌, ◌*◌, ◌≤◌, ◌<◌}
use mathlib.Core.Path.{◌≡◌, refl, sym, ◌∙◌, ap, subst}
use mathlib.Core.Bool.{Bool, true, false, not, cond, ◌||◌, true≢false}
use mathlib.Core.List.{List, ◌++◌}
use native.Mathlib.Nat.{zero-add}
use lib.Dec.{leb, ltb}
use lib.Ieee.{Float, inf, lt, binary64, of_bits}
use lib.ListN.{length, drop, replicate}
use borrow.Author.Tests.{leb-false, ltb-false, lt-ltb}
use Rattle.units.specs.Limits.{most_rows}
use Rattle.text_fronts.specs.Front.{front}
use Rattle.std.specs.Prelude.{Result, Err}
use Rattle.units.specs.declared.refusal.Refusal.{Refusal}
use Rattle.units.specs.declared.refusal.Refusal.TheVariants.{TooManyRows, NoRoom, BadSum}
use Rattle.units.specs.Refusals.{Verdict, passes, refuse_if, ◌▷◌, if_passes, answer as answer_of}
use Rattle.units.proofs.Verdicts.{no_fault, first_passes, rest_passes}
use Rattle.energy_bays.proofs.Laws.{bad_is}
use Rattle.energy_state.specs.StateG.{energy_verdict, in_kcal}
use Rattle.ledger_rows.specs.Scan.{Scan, EachHasStrand}
use Rattle.ledger_rows.specs.Blocks.{need, energy_table, note_table}
use Rattle.ledger_rows.specs.Trace.{answer, layout}
use Rattle.ledger_row_choice.specs.declared.Bonds.{Bonds}
use Rattle.ledger_fill.specs.Handed.{added_of, set_scan, bay_row, run_scan, Roomy, capped}
use Rattle.ledger_rows.proofs.SameStrands.{need_same}
use Rattle.bay_scan_order.specs.Scan.{window}
use Rattle.ledger_block.specs.Block.{over}
use Rattle.run_room.specs.Room.{room_verdict}
use Rattle.run_least_layout.specs.Run.{row_by_row}
use Rattle.run_least_layout.proofs.Passed.{some_side}
use Rattle.run_system.specs.Steps.{OnBoard, Ran}
use Rattle.run_sets.specs.Finished.{Finished}

-- ---- refused before anything is written
pub stop : (early : Verdict) (z : Scan) (rows cols : ℕ) (kelvin : Float) (l : List ℕ) (e : List Float) (n : List ℕ) {r : Refusal} → early ≡ Err r
    → Finished early z rows cols kelvin (Err r) l l e e n n
stop early z rows cols kelvin l e n {r} f =
    subst (λ (u : Verdict). Finished u z rows cols kelvin (Err r) l l e e n n) (sym f) (record { answered = refl; laid = refl; energies = refl; notes = refl })

-- one test more that passed
pub past : (v w : Verdict) (z : Scan) (rows cols : ℕ) (kelvin : Float) {r : Result Float Refusal} {l₀ l₁ : List ℕ} {e₀ e₁ : List Float} {n₀ n₁ : List ℕ}
    → v ≡ passes → Finished w z rows cols kelvin r l₀ l₁ e₀ e₁ n₀ n₁ → Finished (v ▷ w) z rows cols kelvin r l₀ l₁ e₀ e₁ n₀ n₁
past v w z rows cols kelvin {r} {l₀} {l₁} {e₀} {e₁} {n₀} {n₁} p f =
    subst (λ (u : Verdict). Finished u z rows cols kelvin r l₀ l₁ e₀ e₁ n₀ n₁) (sym (ap (λ (u : Verdict). u ▷ w) p)) f

-- ---- the need as the code caps it
capped_room : (need energies notes : ℕ) → room_verdict (capped need) energies notes ≡ room_verdict need energies notes
capped_room need energies notes = by (leb need most_rows) refl
  where
    by : (b : Bool) → leb need most_rows ≡ b → room_verdict (cond b need (most_rows + 1)) energies notes ≡ room_verdict need energies notes
    by true e = refl
    by false e = sym (ap (λ (t : Bool). refuse_if t TooManyRows ▷ refuse_if (ltb energies need || ltb notes need) (NoRoom need)) (lt-ltb most_rows need (leb-false need most_rows e)))

pub room_by_cap : {x : Verdict} {n : ℕ} (need energies notes : ℕ) → n ≡ capped need → x ≡ room_verdict n energies notes → x ≡ room_verdict need energies notes
room_by_cap need energies notes c e = e ∙ ap (λ (k : ℕ). room_verdict k energies notes) c ∙ capped_room need energies notes

-- what a passed test of the room tells
pub record Fits (need energies notes : ℕ) : Type 0 where
  pub few : need ≤ most_rows
  pub energies_fit : need ≤ energies
  pub notes_fit : need ≤ notes

neither : (a b : Bool) → (a || b) ≡ false → (a ≡ false) × (b ≡ false)
neither true b e = absurd (true≢false e)
neither false b e = (refl, e)

pub fits : (need energies notes : ℕ) → room_verdict need energies notes ≡ passes → Fits need energies notes
fits need energies notes e =
    let eight = refuse_if (ltb most_rows need) TooManyRows in
    let nine = refuse_if (ltb energies need || ltb notes need) (NoRoom need) in
    let both = neither (ltb energies need) (ltb notes need) (no_fault (ltb energies need || ltb notes need) (NoRoom need) (rest_passes eight nine e)) in
    record {
      few = ltb-false most_rows need (no_fault (ltb most_rows need) TooManyRows (first_passes eight nine e));
      energies_fit = ltb-false energies need both.0;
      notes_fit = ltb-false notes need both.1;
    }

-- ---- the run itself
-- the order's test of an energy, and the verdict on it
as_passes : {A : Type 0} (x : Float) (new zero : A) → cond (lt (inf true) x) new zero ≡ if_passes (energy_verdict x) new zero
as_passes x new zero = by (lt (inf true) x) ∙ ap (λ (b : Bool). if_passes (refuse_if b BadSum) new zero) (sym (bad_is x))
  where
    by : (b : Bool) → cond b new zero ≡ if_passes (refuse_if (not b) BadSum) new zero
    by true = refl
    by false = refl

written : {A : Type 0} (x : Float) (old new zero : List A) → over old 0 (cond (lt (inf true) x) new zero) ≡ front (if_passes (energy_verdict x) new zero) old
written x old new zero =
    ap (λ (l : List _). over old 0 l) (as_passes x new zero) ∙ ap (λ (k : ℕ). if_passes (energy_verdict x) new zero ++ drop k old) (zero-add (length (if_passes (energy_verdict x) new zero)))

pub finish : (room : Verdict) (z : Scan) (rows cols : ℕ) (kelvin : Float) {sum : Float} {r : Result Float Refusal} {l₀ l₁ : List ℕ} {e₀ e₁ : List Float} {n₀ n₁ : List ℕ}
    → room ≡ passes → Ran z rows cols sum l₀ l₁ e₀ e₁ n₀ n₁ → r ≡ answer_of (energy_verdict sum) (in_kcal sum kelvin)
    → Finished room z rows cols kelvin r l₀ l₁ e₀ e₁ n₀ n₁
finish room z rows cols kelvin {r = r} {l₀} {l₁} {e₀} {e₁} {n₀} {n₁} none ran a =
    let n = rows * cols in
    subst (λ (u : Verdict). Finished u z rows cols kelvin r l₀ l₁ e₀ e₁ n₀ n₁) (sym none)
    (record {
      answered = a ∙ ap (λ (s : Float). answer_of (energy_verdict s) (in_kcal s kelvin)) ran.sum;
      laid = ran.laid ∙ as_passes (answer z n) (row_by_row rows cols (layout z n)) l₀;
      energies = ran.energies ∙ written (answer z n) e₀ (energy_table z n) (replicate (need z n) (of_bits binary64 0));
      notes = ran.notes ∙ written (answer z n) n₀ (note_table z n) (replicate (need z n) 0);
    })

-- ---- the need, which depends on the sets alone
pub need_of : (rows cols w : ℕ) (scan : List ℕ) (sites : List Float) (bonds : Bonds) → w ≡ window rows cols → length scan ≡ rows * cols
    → need (set_scan w scan) (length scan) ≡ need (run_scan (window rows cols) scan sites bonds) (rows * cols)
need_of rows cols w scan sites bonds is long =
    ap (λ (v : ℕ). need (set_scan v scan) (length scan)) is
    ∙ ap (need (set_scan (window rows cols) scan)) long
    ∙ need_same (set_scan (window rows cols) scan) (added_of (window rows cols) (bay_row sites) bonds) (rows * cols)

-- the shorter side is there
pub some_window : {rows cols scan lent : ℕ} → OnBoard rows cols scan lent → 0 < window rows cols
some_window {rows} {cols} on = some_side (leb cols rows) rows cols on.some_rows on.some_cols

pub roomy : (rows cols : ℕ) (scan : List ℕ) (sites : List Float) (bonds : Bonds) (energies notes lent : ℕ) → OnBoard rows cols (length scan) lent
    → EachHasStrand (set_scan (window rows cols) scan) (length scan)
    → room_verdict (need (run_scan (window rows cols) scan sites bonds) (rows * cols)) energies notes ≡ passes
    → Roomy (window rows cols) scan energies notes
roomy rows cols scan sites bonds energies notes lent on filled passed =
    let count = need (run_scan (window rows cols) scan sites bonds) (rows * cols) in
    let fit = fits count energies notes passed in
    let same = need_of rows cols (window rows cols) scan sites bonds refl on.scanned in
    record {
      some_window = some_window on;
      filled = filled;
      few_rows = subst (λ (k : ℕ). k ≤ most_rows) (sym same) fit.few;
      energies_fit = subst (λ (k : ℕ). k ≤ energies) (sym same) fit.energies_fit;
      notes_fit = subst (λ (k : ℕ). k ≤ notes) (sym same) fit.notes_fit;
    }
