-- A least-energy run as a call, over whatever may lie on each bay: what is refused of it, its answer, and what it leaves in the three lent slices. Assumes nothing.
use Rattle.std.specs.Prelude.{ℕ, ◌≡◌, Bool, List, Float, Result, length, take}
use Rattle.std.specs.Float.{binary64}
use Rattle.std.specs.Float.Ieee.{of_bits}
use Rattle.units.specs.declared.refusal.Refusal.{Refusal}
use Rattle.units.specs.Refusals.{Verdict, ◌▷◌, if_passes, answer}
use Rattle.bay_system.specs.System.{System, bays}
use Rattle.bay_bonds.specs.Readable.{Readable}
use Rattle.energy_state.specs.StateG.{energy_verdict, in_kcal}
use Rattle.bay_legal.specs.Sets.{sets_to, empty_verdict}
use Rattle.ledger_rows.specs.Blocks.{energy_table, note_table}
use Rattle.run_room.specs.Room.{room_verdict}
use Rattle.run_tables.specs.Tables.{ReadableBays}
use Rattle.run_system.specs.Steps.{OnBoard}
use Rattle.run_least_layout.specs.Run.{scan_by, need_by, least_sum_by, least_layout_by}
use Rattle.run_sets.specs.Finished.{table_after, FinishedBy}

-- 10: the least scan sum is NaN or minus infinity
abbrev pub sum_by : System → (may : ℕ → ℕ → Bool) → Verdict
sum_by s may = energy_verdict (least_sum_by s may)

-- `first` is what is refused of what is given, and `may` says which strand may lie on which bay
module _ (first : Verdict) (s : System) (may : ℕ → ℕ → Bool) where
  -- what is refused before anything is written: what was given, 7, 8, 9
  abbrev pub early_by : (energies notes : ℕ) → Verdict
  early_by energies notes =
      first
      ▷ empty_verdict s.sizes.rows s.sizes.cols (sets_to may (bays s.sizes))
      ▷ room_verdict (need_by s may) energies notes

  abbrev pub verdict_by : (energies notes : ℕ) → Verdict
  verdict_by energies notes = early_by energies notes ▷ sum_by s may

  -- the least energy in kcal/mol, or the refusal
  abbrev pub answer_by : (energies notes : ℕ) → Result Float Refusal
  answer_by energies notes = answer (verdict_by energies notes) (in_kcal (least_sum_by s may) s.sizes.kelvin)

  -- what the three lent slices hold afterwards
  abbrev pub layout_by : (energies notes : ℕ) → (old : List ℕ) → List ℕ
  layout_by energies notes old = if_passes (verdict_by energies notes) (least_layout_by s may) old

  abbrev pub energies_by : (notes : ℕ) → (old : List Float) → List Float
  energies_by notes old =
      table_after (early_by (length old) notes) (sum_by s may) (need_by s may) (of_bits binary64 0) (energy_table (scan_by s may) (bays s.sizes)) old

  abbrev pub notes_by : (energies : ℕ) → (old : List ℕ) → List ℕ
  notes_by energies old =
      table_after (early_by energies (length old)) (sum_by s may) (need_by s may) 0 (note_table (scan_by s may) (bays s.sizes)) old

-- ---- what the run over sets asks

-- the front of a table has the sets of what may lie on each bay
abbrev pub SetsBy : (may : ℕ → ℕ → Bool) → (n : ℕ) → (table : List ℕ) → Type 0
SetsBy may n table = take n table ≡ sets_to may n

abbrev pub SomeSets : (n : ℕ) → (table : List ℕ) → Type 0
SomeSets n table = (may : ℕ → ℕ → Bool) × SetsBy may n table

-- tables that can be read, and a layout with a place for each bay
pub record Ready (s : System) (lent : ℕ) : Type 0 where
  pub readable : Readable s
  pub stocked : ReadableBays s
  pub board : OnBoard s.sizes.rows s.sizes.cols (bays s.sizes) lent

-- what it promises, by whatever made the sets: 7, then what a run over them answers and leaves
abbrev pub FinishedFrom : System → (table : List ℕ) → Result Float Refusal → (layout₀ layout₁ : List ℕ) → (energies₀ energies₁ : List Float) → (notes₀ notes₁ : List ℕ) → Type 0
FinishedFrom s table r layout₀ layout₁ energies₀ energies₁ notes₀ notes₁ =
    (may : ℕ → ℕ → Bool) → SetsBy may (length s.scaffold) table
    → FinishedBy (empty_verdict s.sizes.rows s.sizes.cols (sets_to may (bays s.sizes))) s may r layout₀ layout₁ energies₀ energies₁ notes₀ notes₁
