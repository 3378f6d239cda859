-- The blocks stand one behind the other: where each begins, and how long both tables are. Assumes nothing.
use mathlib.Core.Path.{◌≡◌, refl, sym, ap, ap₂, ◌∙◌, subst}
use mathlib.Core.Logic.{⊎_elim}
use mathlib.Core.List.{List, ◌++◌}
use Prim.Native.Nat.{ℕ, zero, suc, ◌+◌, ◌<◌, ◌≤◌}
use native.Mathlib.Nat.{eq-or-lt_of_le, le_of_suc-le-suc, not-suc-le-zero}
use native.Mathlib.Omega.{arith}
use lib.Ieee.{binary64, of_bits}
use lib.ListN.{length, get_or, length-append, get_or-append}
use lib.Seq.{get_or-append-add}
use Rattle.ledger_rows.specs.Scan.{Scan}
use Rattle.ledger_rows.specs.Blocks.{flat, size, held_at, energies, notes, need, energy_table, note_table}
use Rattle.ledger_rows.proofs.Rows.{length_energies, length_notes}

module _ {A : Type 0} (f : ℕ → List A) where
  -- a list ends before the lists that follow it
  ends_within : (n k : ℕ) → k < n → length (flat f k) + length (f k) ≤ length (flat f n)
  unfolding flat
  ends_within zero k h = absurd (not-suc-le-zero h)
  ends_within (suc n) k h =
      ⊎_elim (λ (e : k ≡ n). rw e (omega (arith, length-append (flat f n) (f n)))) (λ (l : k < n). omega (arith, length-append (flat f n) (f n), ends_within n k l))
      (eq-or-lt_of_le (le_of_suc-le-suc h))

  pub flat_part : (n k i : ℕ) (d : A) → k < n → i < length (f k) → get_or (flat f n) (length (flat f k) + i) d ≡ get_or (f k) i d
  unfolding flat
  flat_part zero k i d h l = absurd (not-suc-le-zero h)
  flat_part (suc n) k i d h l =
      ⊎_elim (λ (e : k ≡ n). last e)
      (λ (g : k < n). get_or-append (flat f n) (f n) d (length (flat f k) + i) (omega (arith, ends_within n k g)) ∙ flat_part n k i d g l)
      (eq-or-lt_of_le (le_of_suc-le-suc h))
    where
      last : k ≡ n → get_or (flat f n ++ f n) (length (flat f k) + i) d ≡ get_or (f k) i d
      last e = rw e (get_or-append-add (flat f n) (f n) i d)

module _ (z : Scan) where
  pub length_energy_table : (n : ℕ) → length (energy_table z n) ≡ need z n
  unfolding energy_table flat need
  length_energy_table zero = refl
  length_energy_table (suc n) =
      length-append (flat (λ k. energies z (suc k)) n) (energies z (suc n)) ∙ ap₂ (λ (a b : ℕ). a + b) (length_energy_table n) (length_energies z n)

  pub length_note_table : (n : ℕ) → length (note_table z n) ≡ need z n
  unfolding note_table flat need
  length_note_table zero = refl
  length_note_table (suc n) =
      length-append (flat (λ k. notes z (suc k)) n) (notes z (suc n)) ∙ ap₂ (λ (a b : ℕ). a + b) (length_note_table n) (length_notes z n)

  pub energies_follow : (n k i : ℕ) → k < n → i < size z (suc k) (suc z.kept) → held_at (energy_table z n) (need z k + i) ≡ held_at (energies z (suc k)) i
  unfolding energy_table
  energies_follow n k i h l =
      ap (λ o. held_at (flat (λ k. energies z (suc k)) n) (o + i)) (sym (length_energy_table k))
      ∙ flat_part (λ k. energies z (suc k)) n k i (of_bits binary64 0) h (subst (λ s. i < s) (sym (length_energies z k)) l)

  pub notes_follow : (n k i : ℕ) → k < n → i < size z (suc k) (suc z.kept) → get_or (note_table z n) (need z k + i) 0 ≡ get_or (notes z (suc k)) i 0
  unfolding note_table
  notes_follow n k i h l =
      ap (λ o. get_or (flat (λ k. notes z (suc k)) n) (o + i) 0) (sym (length_note_table k))
      ∙ flat_part (λ k. notes z (suc k)) n k i 0 h (subst (λ s. i < s) (sym (length_notes z k)) l)
