-- A good row is at most the scan sum of every legal filling that ends in its choice, and then that sum is good too. Assumes nothing.
use mathlib.Core.Path.{◌≡◌, refl, sym, ap, ◌∙◌}
use mathlib.Core.Bool.{true}
use mathlib.Core.List.{List, [], ◌∷◌}
use Prim.Native.Nat.{ℕ, zero, suc, ◌+◌, ◌*◌, ◌<◌}
use native.Mathlib.Decide.{dec_lt}
use native.Mathlib.Omega.{arith}
use lib.Ieee.{Float, binary64, of_bits, add, lt, le}
use lib.ListN.{length, get_or}
use Rattle.floats.specs.Values.{Good}
use Rattle.floats.proofs.Order.{le_trans, lt_le_trans}
use Rattle.floats.proofs.Good.{good_le_refl, zero_good}
use Rattle.floats.proofs.Add.{good_left, add_mono, add_mono_good}
use Rattle.ledger_rows.specs.Scan.{Scan, Legal, scan_sum, Rising}
use Rattle.ledger_rows.specs.Blocks.{leavers, newest, held_at, candidate, row_of, energies}
use Rattle.ledger_rows.proofs.Choosing.{chosen}
use Rattle.ledger_rows.proofs.Numbering.{row, leaves, row_lt, row_splits, leaves_lt, leaves_at, newest_at, legal_length}
use Rattle.ledger_rows.proofs.Rows.{energies_at}

-- the sum with which a filling goes on
abbrev pub goes_on : Scan → Float → List ℕ → ℕ → Float
goes_on z sum f t = add binary64 sum (z.added (length f) (get_or f z.kept 0) (get_or f 0 0) t)

-- below a good choice every candidate is good, and so is what it went on from
sum_over : (x y c r : Float) → Good r → le r (add binary64 x c) ≡ true → Good (add binary64 x c) → (Good x → Good y × (le x y ≡ true))
    → Good (add binary64 y c) × (le r (add binary64 y c) ≡ true)
sum_over x y c r g h a before =
    let old = before (good_left binary64 x c a) in
    (add_mono_good binary64 x y c old.1 a, le_trans r (add binary64 x c) (add binary64 y c) h (add_mono binary64 x y c old.1 a))

-- the same number added to the same row
same_sum : (z : Scan) (before : List Float) {i i' k k' s s' u u' t t' : ℕ} → i ≡ i' → k ≡ k' → s ≡ s' → u ≡ u' → t ≡ t'
    → add binary64 (held_at before i) (z.added k s u t) ≡ add binary64 (held_at before i') (z.added k' s' u' t')
same_sum z before a b c d e = cc

module _ (z : Scan) where
  -- before the first bay the sum is 0.0
  pub none_held : (i : ℕ) → held_at (energies z zero) i ≡ of_bits binary64 0
  unfolding energies
  none_held i = refl

  -- the candidate that a filling of k bays gives for strand t: its own row, and what t adds to it
  pub filling_candidate : (before : List Float) (k t : ℕ) (f : List ℕ) (l : Legal z (suc k) (t ∷ f))
      → (candidate z before k (row z k z.kept f l.1) l.0.0 (leaves z z.kept k f l.1)).energy
      ≡ goes_on z (held_at before (row z k (suc z.kept) f l.1)) f t
  filling_candidate before k t f l =
      let at = sym (row_splits z z.kept k f l.1) in
      same_sum z before at (sym (legal_length z k f l.1)) (leaves_at z z.kept k f l.1) (ap (newest z k) at ∙ newest_at z k z.kept f l.1) l.0.2

  -- the row of the filling with one bay more: the chosen candidate is good, so the filling's own is good and no smaller
  least_more : (k t : ℕ) (f : List ℕ) (l : Legal z (suc k) (t ∷ f))
      → (Good (held_at (energies z k) (row z k (suc z.kept) f l.1))
      → Good (scan_sum z f) × (le (held_at (energies z k) (row z k (suc z.kept) f l.1)) (scan_sum z f) ≡ true))
      → Good (row_of z (energies z k) k (row z k z.kept f l.1) l.0.0).energy
      → Good (goes_on z (scan_sum z f) f t) × (le (row_of z (energies z k) k (row z k z.kept f l.1) l.0.0).energy (goes_on z (scan_sum z f) f t) ≡ true)
  least_more k t f l before g =
      let q = row z k z.kept f l.1 in
      let a = leaves z z.kept k f l.1 in
      let n = length (leavers z z.kept k) in
      let next = candidate z (energies z k) k q l.0.0 in
      let within : a < n = leaves_lt z z.kept k f l.1 in
      let found = chosen next n (omega arith) in
      let held : row_of z (energies z k) k q l.0.0 ≡ next found.0 = found.1.held in
      let good : Good (next found.0).energy = rw held at g in
      let own = found.1.least good a within in
      let same : (next a).energy ≡ goes_on z (held_at (energies z k) (row z k (suc z.kept) f l.1)) f t = filling_candidate (energies z k) k t f l in
      rw held
      (sum_over (held_at (energies z k) (row z k (suc z.kept) f l.1)) (scan_sum z f) (z.added (length f) (get_or f z.kept 0) (get_or f 0 0) t) (next found.0).energy good
      (rw same at own.1) (rw same at own.0) before)

  pub least : (k : ℕ) (f : List ℕ) (l : Legal z k f) → Good (held_at (energies z k) (row z k (suc z.kept) f l))
      → Good (scan_sum z f) × (le (held_at (energies z k) (row z k (suc z.kept) f l)) (scan_sum z f) ≡ true)
  unfolding scan_sum row
  least zero [] l g = rw (none_held 0) (zero_good, good_le_refl (of_bits binary64 0) zero_good)
  least zero (t ∷ f) l g = absurd l
  least (suc k) [] l g = absurd l
  least (suc k) (t ∷ f) l g =
      let q = row z k z.kept f l.1 in
      let at : held_at (energies z (suc k)) (q * length (z.strands k) + l.0.0) ≡ (row_of z (energies z k) k q l.0.0).energy =
      energies_at z k q l.0.0 (row_lt z k z.kept f l.1) l.0.1 in
      rw at (least_more k t f l (least k f l.1) (rw at at g))

  -- ---- a row that comes from a filling with a lower leaver is larger
  lower_position : (l : List ℕ) (a b : ℕ) → Rising l → a < length l → b < length l → get_or l a 0 < get_or l b 0 → a < b
  lower_position l a b rises h g less =
      elim (dec_lt a b) [
        | yes i ↦ i
        | no i ↦ elim (dec_lt b a) [ yes j ↦ absurd (omega (arith, rises b a j h)) | no j ↦ absurd (omega (arith, ap (λ n. get_or l n 0) (same a b i j))) ]
      ]
    where
      same : (a b : ℕ) → ¬ (a < b) → ¬ (b < a) → a ≡ b
      same a b x y = omega arith

  pub lower_leaver : (k t : ℕ) (f : List ℕ) (l : Legal z (suc k) (t ∷ f)) → Rising (leavers z z.kept k)
      → Good (row_of z (energies z k) k (row z k z.kept f l.1) l.0.0).energy
      → get_or f z.kept 0 < (row_of z (energies z k) k (row z k z.kept f l.1) l.0.0).who
      → lt (row_of z (energies z k) k (row z k z.kept f l.1) l.0.0).energy (goes_on z (scan_sum z f) f t) ≡ true
  lower_leaver k t f l rises g less =
      let q = row z k z.kept f l.1 in
      let a = leaves z z.kept k f l.1 in
      let n = length (leavers z z.kept k) in
      let next = candidate z (energies z k) k q l.0.0 in
      let within : a < n = leaves_lt z z.kept k f l.1 in
      let found = chosen next n (omega arith) in
      let held : row_of z (energies z k) k q l.0.0 ≡ next found.0 = found.1.held in
      let good : Good (next found.0).energy = rw held at g in
      let lower : get_or (leavers z z.kept k) a 0 < get_or (leavers z z.kept k) found.0 0 = rw (leaves_at z z.kept k f l.1) (rw held at less) in
      let first : lt (next found.0).energy (next a).energy ≡ true =
      found.1.first good a (lower_position (leavers z z.kept k) a found.0 rises within found.1.within lower) in
      let own : Good (next a).energy = (found.1.least good a within).0 in
      let x = held_at (energies z k) (row z k (suc z.kept) f l.1) in
      let c = z.added (length f) (get_or f z.kept 0) (get_or f 0 0) t in
      let same : (next a).energy ≡ add binary64 x c = filling_candidate (energies z k) k t f l in
      let sum : Good (add binary64 x c) = rw same at own in
      rw held
      (lt_le_trans (next found.0).energy (add binary64 x c) (add binary64 (scan_sum z f) c) (rw same at first)
      (add_mono binary64 x (scan_sum z f) c (least k f l.1 (good_left binary64 x c sum)).1 sum))
