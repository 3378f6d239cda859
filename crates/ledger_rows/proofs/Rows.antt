-- What stands in a row of a block, and how long a block is. Assumes nothing.
use mathlib.Core.Path.{◌≡◌, sym, ◌∙◌}
use Prim.Native.Nat.{ℕ, suc, ◌+◌, ◌*◌, ◌<◌}
use mathlib.Core.List.{List}
use lib.Ieee.{Float, binary64, of_bits}
use lib.ListN.{length, get_or}
use Rattle.floats.specs.declared.Choice.{Choice}
use Rattle.ledger_rows.specs.Scan.{Scan}
use Rattle.ledger_rows.specs.Blocks.{tab, size, held_at, row_of, block_of, energies, notes}
use Rattle.ledger_rows.proofs.Lists.{length_tab, tab_at, length_flat, flat_at}
use Rattle.ledger_rows.proofs.Numbering.{size_more}

module _ {A : Type 0} (part : Choice → A) (z : Scan) (before : List Float) (k : ℕ) where
  pub block_at : (q p : ℕ) (d : A) → q < size z k z.kept → p < length (z.strands k)
      → get_or (block_of part z before k) (q * length (z.strands k) + p) d ≡ part (row_of z before k q p)
  block_at q p d h l =
      flat_at (λ q. tab (λ p. part (row_of z before k q p)) (length (z.strands k))) (length (z.strands k))
      (λ q. length_tab (λ p. part (row_of z before k q p)) (length (z.strands k))) (size z k z.kept) q p d h l
      ∙ tab_at (λ p. part (row_of z before k q p)) (length (z.strands k)) p d l

  pub length_block : length (block_of part z before k) ≡ size z (suc k) (suc z.kept)
  length_block =
      length_flat (λ q. tab (λ p. part (row_of z before k q p)) (length (z.strands k))) (length (z.strands k))
      (λ q. length_tab (λ p. part (row_of z before k q p)) (length (z.strands k))) (size z k z.kept)
      ∙ sym (size_more z k z.kept)

module _ (z : Scan) (k : ℕ) where
  pub energies_at : (q p : ℕ) → q < size z k z.kept → p < length (z.strands k)
      → held_at (energies z (suc k)) (q * length (z.strands k) + p) ≡ (row_of z (energies z k) k q p).energy
  unfolding energies
  energies_at q p h l = block_at (λ c. c.energy) z (energies z k) k q p (of_bits binary64 0) h l

  pub notes_at : (q p : ℕ) → q < size z k z.kept → p < length (z.strands k)
      → get_or (notes z (suc k)) (q * length (z.strands k) + p) 0 ≡ (row_of z (energies z k) k q p).who
  unfolding notes
  notes_at q p h l = block_at (λ c. c.who) z (energies z k) k q p 0 h l

  pub length_energies : length (energies z (suc k)) ≡ size z (suc k) (suc z.kept)
  unfolding energies
  length_energies = length_block (λ c. c.energy) z (energies z k) k

  pub length_notes : length (notes z (suc k)) ≡ size z (suc k) (suc z.kept)
  unfolding notes
  length_notes = length_block (λ c. c.who) z (energies z k) k
