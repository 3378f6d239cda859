-- The answer's row is a row of the last block, and each note is a strand that leaves. Assumes nothing.
use mathlib.Core.Path.{◌≡◌, sym, ap, ◌∙◌, subst}
use Prim.Native.Nat.{ℕ, suc, ◌/◌, ◌%◌, ◌<◌}
use native.Mathlib.Omega.{arith}
use lib.ListN.{length, get_or}
use Rattle.floats.specs.declared.Choice.{Choice}
use Rattle.ledger_rows.specs.Scan.{Scan, EachHasStrand, Rising}
use Rattle.ledger_rows.specs.Blocks.{size, leavers, held_at, candidate, energies, notes}
use Rattle.ledger_rows.specs.Trace.{below, answer_row}
use Rattle.ledger_rows.proofs.Choosing.{chosen}
use Rattle.ledger_rows.proofs.Numbering.{Digits, digits, size_more, size_some, leavers_some}
use Rattle.ledger_rows.proofs.Rows.{notes_at}
use Rattle.ledger_rows.proofs.Places.{below_at, leavers_rise}

module _ (z : Scan) (n : ℕ) (some : EachHasStrand z n) where
  pub answer_inside : (answer_row z n).who < size z n (suc z.kept)
  unfolding answer_row
  answer_inside =
      let found = chosen (λ i. record { energy = held_at (energies z n) i; who = i }) (size z n (suc z.kept)) (size_some z n (suc z.kept) some) in
      subst (λ i. i < size z n (suc z.kept)) (sym (ap (λ (c : Choice). c.who) found.1.held)) found.1.within

  pub note_leaves : ((k : ℕ) → Rising (z.strands k)) → (k i : ℕ) → k < n → i < size z (suc k) (suc z.kept)
      → below (leavers z z.kept k) (get_or (notes z (suc k)) i 0) < length (leavers z z.kept k)
  note_leaves rise k i h l =
      let c = length (z.strands k) in
      let d : Digits i (size z k z.kept) c = digits i (size z k z.kept) c (subst (λ s. i < s) (size_more z k z.kept) l) in
      let found = chosen (candidate z (energies z k) k (i / c) (i % c)) (length (leavers z z.kept k)) (leavers_some z z.kept k (λ j b. some j (omega arith))) in
      let note : get_or (notes z (suc k)) i 0 ≡ get_or (leavers z z.kept k) found.0 0 =
      ap (λ r. get_or (notes z (suc k)) r 0) (sym d.split) ∙ notes_at z k (i / c) (i % c) d.whole d.rest ∙ ap (λ (r : Choice). r.who) found.1.held in
      subst (λ p. p < length (leavers z z.kept k)) (sym (ap (below (leavers z z.kept k)) note ∙ below_at (leavers z z.kept k) found.0 (leavers_rise z rise z.kept k) found.1.within))
      found.1.within
