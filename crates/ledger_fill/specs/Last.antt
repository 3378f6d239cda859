-- A filled ledger: where its last block stands, and what both tables hold. Assumes nothing.
use Rattle.std.specs.Prelude.{◌≡◌, List, ℕ, ◌-◌, Float, length}
use Rattle.ledger_rows.specs.Scan.{Scan}
use Rattle.ledger_rows.specs.Blocks.{energies, need, energy_table, note_table}
use Rattle.ledger_block.specs.Block.{over}
use Rattle.ledger_block.specs.declared.Stretch.{Stretch}

-- block n ends where the need of n bays ends
abbrev pub last_of : Scan → (n : ℕ) → Stretch
last_of z n = record { from = need z n - length (energies z n); end = need z n }

-- what filling the ledger of n bays answers and leaves: both tables are written from their starts, and nothing else in them
pub record LedgerFilled (z : Scan) (n : ℕ) (last : Stretch) (energies₀ energies₁ : List Float) (notes₀ notes₁ : List ℕ) : Type 0 where
  pub last_is : last ≡ last_of z n
  pub energies_are : energies₁ ≡ over energies₀ 0 (energy_table z n)
  pub notes_are : notes₁ ≡ over notes₀ 0 (note_table z n)
