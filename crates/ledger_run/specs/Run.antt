-- What a run leaves: the answer and both tables, or zeros where the answer is no energy. Assumes nothing.
use Rattle.std.specs.Prelude.{◌≡◌, true, cond, List, ℕ, Float, replicate}
use Rattle.std.specs.Float.{inf, binary64}
use Rattle.std.specs.Float.Ieee.{lt, of_bits}
use Rattle.ledger_rows.specs.Scan.{Scan}
use Rattle.ledger_rows.specs.Blocks.{need, energy_table, note_table}
use Rattle.ledger_rows.specs.Trace.{answer, layout}
use Rattle.ledger_block.specs.Block.{over}
use Rattle.ledger_way_back.specs.Tracing.{in_order}

-- one where the run is answered, the other where it is refused with 10
abbrev pub if_answered : {A : Type 0} → Scan → ℕ → A → A → A
if_answered z n answered refused = cond (lt (inf true) (answer z n)) answered refused

-- a lent table after a run over n bays: its needed places hold the ledger's, and `blank` each after 10; the others are as they were
abbrev pub table_left : {A : Type 0} → Scan → ℕ → (blank : A) → (new old : List A) → List A
table_left z n blank new old = over old 0 (if_answered z n new (replicate (need z n) blank))

-- what a run over n bays answers and leaves; the layout stands in scan order, and is as it was after 10
pub record LedgerRan (z : Scan) (n : ℕ) (r : Float) (order₀ order₁ : List ℕ) (energies₀ energies₁ : List Float) (notes₀ notes₁ : List ℕ) : Type 0 where
  pub sum : r ≡ answer z n
  pub order : order₁ ≡ if_answered z n (in_order (layout z n)) order₀
  pub energies : energies₁ ≡ table_left z n (of_bits binary64 0) (energy_table z n) energies₀
  pub notes : notes₁ ≡ table_left z n 0 (note_table z n) notes₀
