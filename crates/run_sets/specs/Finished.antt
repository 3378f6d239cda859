-- The run over sets: what it answers and leaves, by what was tested before anything is written. Assumes nothing.
use Rattle.std.specs.Prelude.{ℕ, ◌*◌, ◌≡◌, Bool, List, Float, Result, length, replicate}
use Rattle.std.specs.Float.{binary64}
use Rattle.std.specs.Float.Ieee.{of_bits}
use Rattle.text_fronts.specs.Front.{front}
use Rattle.units.specs.declared.refusal.Refusal.{Refusal}
use Rattle.units.specs.Refusals.{Verdict, ◌▷◌, if_passes, answer as answer_of}
use Rattle.bay_system.specs.System.{System}
use Rattle.energy_state.specs.StateG.{energy_verdict, in_kcal}
use Rattle.ledger_rows.specs.Scan.{Scan}
use Rattle.ledger_rows.specs.Blocks.{need, energy_table, note_table}
use Rattle.ledger_rows.specs.Trace.{answer, layout}
use Rattle.run_room.specs.Room.{room_verdict}
use Rattle.run_least_layout.specs.Run.{table_scan, scan_by, need_by, row_by_row}

-- what a lent table holds afterwards: refused earlier, what it held; refused as 10, zeros in the needed places; else the ledger
abbrev pub table_after : {A : Type 0} → (early last : Verdict) → (count : ℕ) → (zero : A) → (new old : List A) → List A
table_after early last count zero new old = if_passes early (front (if_passes last new (replicate count zero)) old) old

-- what the run answers and leaves, where `early` is what was tested before anything is written
pub record Finished (early : Verdict) (z : Scan) (rows cols : ℕ) (kelvin : Float) (r : Result Float Refusal)
    (layout₀ layout₁ : List ℕ) (energies₀ energies₁ : List Float) (notes₀ notes₁ : List ℕ) : Type 0 where
  pub answered : r ≡ answer_of (early ▷ energy_verdict (answer z (rows * cols))) (in_kcal (answer z (rows * cols)) kelvin)
  pub laid : layout₁ ≡ if_passes (early ▷ energy_verdict (answer z (rows * cols))) (row_by_row rows cols (layout z (rows * cols))) layout₀
  pub energies : energies₁ ≡ table_after early (energy_verdict (answer z (rows * cols))) (need z (rows * cols)) (of_bits binary64 0) (energy_table z (rows * cols)) energies₀
  pub notes : notes₁ ≡ table_after early (energy_verdict (answer z (rows * cols))) (need z (rows * cols)) 0 (note_table z (rows * cols)) notes₀

-- the same of a system, over sets in scan order, where nothing was tested before the room
abbrev pub FinishedScan : System → (scan : List ℕ) → Result Float Refusal → (layout₀ layout₁ : List ℕ) → (energies₀ energies₁ : List Float) → (notes₀ notes₁ : List ℕ) → Type 0
FinishedScan s scan r layout₀ layout₁ energies₀ energies₁ notes₀ notes₁ =
    let rows = s.sizes.rows in
    let cols = s.sizes.cols in
    let z = table_scan s scan in
    Finished (room_verdict (need z (rows * cols)) (length energies₀) (length notes₀)) z rows cols s.sizes.kelvin r layout₀ layout₁ energies₀ energies₁ notes₀ notes₁

-- the same of a system, over the strands that may lie on each bay, where `first` is what was tested before the room
abbrev pub FinishedBy : (first : Verdict) → System → (may : ℕ → ℕ → Bool) → Result Float Refusal
    → (layout₀ layout₁ : List ℕ) → (energies₀ energies₁ : List Float) → (notes₀ notes₁ : List ℕ) → Type 0
FinishedBy first s may r layout₀ layout₁ energies₀ energies₁ notes₀ notes₁ =
    let room = room_verdict (need_by s may) (length energies₀) (length notes₀) in
    Finished (first ▷ room) (scan_by s may) s.sizes.rows s.sizes.cols s.sizes.kelvin r layout₀ layout₁ energies₀ energies₁ notes₀ notes₁
