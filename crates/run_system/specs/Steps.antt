-- The run in the code's steps, up to the sum: what each asks of the tables, and what it leaves. Assumes nothing.
use Rattle.std.specs.Prelude.{ℕ, ◌*◌, ◌≤◌, ◌≡◌, List, Float}
use Rattle.std.specs.Float.{binary64}
use Rattle.std.specs.Float.Ieee.{of_bits}
use Rattle.units.specs.Limits.{most_side}
use Rattle.ledger_rows.specs.Scan.{Scan}
use Rattle.ledger_rows.specs.Blocks.{energy_table, note_table}
use Rattle.ledger_rows.specs.Trace.{answer, layout}
use Rattle.ledger_run.specs.Run.{if_answered, table_left}
use Rattle.run_least_layout.specs.Run.{row_by_row}

-- what is asked of a grid whose bays stand in scan order
pub record OnBoard (rows cols scan layout : ℕ) : Type 0 where
  pub some_rows : 1 ≤ rows
  pub few_rows : rows ≤ most_side
  pub some_cols : 1 ≤ cols
  pub few_cols : cols ≤ most_side
  pub scanned : scan ≡ rows * cols
  pub laid : layout ≡ rows * cols

-- what a run over tables answers and leaves
pub record Ran (z : Scan) (rows cols : ℕ) (r : Float) (layout₀ layout₁ : List ℕ) (energies₀ energies₁ : List Float) (notes₀ notes₁ : List ℕ) : Type 0 where
  pub sum : r ≡ answer z (rows * cols)
  pub laid : layout₁ ≡ if_answered z (rows * cols) (row_by_row rows cols (layout z (rows * cols))) layout₀
  pub energies : energies₁ ≡ table_left z (rows * cols) (of_bits binary64 0) (energy_table z (rows * cols)) energies₀
  pub notes : notes₁ ≡ table_left z (rows * cols) 0 (note_table z (rows * cols)) notes₀
