-- The notes lead back from each row to a legal filling at that row, whose scan sum is the row's energy; whether or not any sum is bad.
-- Assumes nothing.
use mathlib.Core.Path.{◌≡◌, refl, sym, ap, ◌∙◌, subst}
use mathlib.Core.List.{List, [], ◌∷◌}
use mathlib.Core.Logic.{⊎_elim}
use Prim.Native.Nat.{ℕ, zero, suc, ◌+◌, ◌*◌, ◌-◌, ◌/◌, ◌%◌, ◌≤◌, ◌<◌}
use native.Mathlib.Nat.{eq-or-lt_of_le, le_of_suc-le-suc}
use native.Mathlib.Omega.{arith}
use lib.Arith.{digits_lt}
use lib.ListN.{length, get_or, drop}
use Rattle.floats.specs.declared.Choice.{Choice}
use Rattle.ledger_rows.specs.Scan.{Scan, Legal, scan_sum, EachHasStrand, Rising}
use Rattle.ledger_rows.specs.Blocks.{size, leavers, held_at, came_from, candidate, row_of, energies, notes}
use Rattle.ledger_rows.specs.Trace.{below, row_before, trace}
use Rattle.ledger_rows.proofs.Choosing.{chosen}
use Rattle.ledger_rows.proofs.Numbering.{Digits, digits, row, leaves, same_rest, same_whole, size_more, size_leavers, leavers_some, row_lt, row_splits, leaves_at}
use Rattle.ledger_rows.proofs.Rows.{energies_at, notes_at}
use Rattle.ledger_rows.proofs.Least.{goes_on, none_held, filling_candidate}
use Rattle.ledger_rows.proofs.Places.{below_at, leavers_rise}

-- row i of block k leads back to the filling f
pub record Back (z : Scan) (k i : ℕ) (f : List ℕ) : Type 0 where
  pub legal : Legal z k f
  pub at : row z k (suc z.kept) f legal ≡ i
  pub sum : scan_sum z f ≡ held_at (energies z k) i
  pub noted : get_or (notes z k) i 0 ≡ get_or f (suc z.kept) 0

module _ (z : Scan) where
  -- before the first bay there is the empty filling
  none : (i : ℕ) → i < size z 0 (suc z.kept) → Back z 0 i []
  unfolding size row scan_sum notes
  none i h = record { legal = tt; at = omega arith; sum = sym (none_held z i); noted = refl }

  -- a filling at row a·w + q goes on with the strand at position p to row q·c + p, where the strand at position a is chosen to leave
  goes_on_lem : (k q p a : ℕ) (f : List ℕ) → q < size z k z.kept → p < length (z.strands k)
      → row_of z (energies z k) k q p ≡ candidate z (energies z k) k q p a → Back z k (came_from z k q a) f
      → Back z (suc k) (q * length (z.strands k) + p) (get_or (z.strands k) p 0 ∷ f)
  unfolding row scan_sum
  goes_on_lem k q p a f h b held before =
      let l = before.legal in
      let w = size z k z.kept in
      let t = get_or (z.strands k) p 0 in
      let split : leaves z z.kept k f l * w + row z k z.kept f l ≡ a * w + q = sym (row_splits z z.kept k f l) ∙ before.at in
      let rest : row z k z.kept f l ≡ q = same_rest (leaves z z.kept k f l) a w (row z k z.kept f l) q (row_lt z k z.kept f l) h split in
      let leaver : leaves z z.kept k f l ≡ a = same_whole (leaves z z.kept k f l) a w (row z k z.kept f l) q (row_lt z k z.kept f l) h split in
      let own : (candidate z (energies z k) k (row z k z.kept f l) p (leaves z z.kept k f l)).energy ≡ goes_on z (held_at (energies z k) (row z k (suc z.kept) f l)) f t =
      filling_candidate z (energies z k) k t f ((p, b, refl), l) in
      let moved : (candidate z (energies z k) k q p a).energy ≡ goes_on z (held_at (energies z k) (row z k (suc z.kept) f l)) f t = rw (rest, leaver) at own in
      record {
        legal = ((p, b, refl), l);
        at = ap (λ r. r * length (z.strands k) + p) rest;
        sum =
            ap (λ x. goes_on z x f t) (before.sum ∙ ap (held_at (energies z k)) (sym before.at))
            ∙ sym moved
            ∙ ap (λ (c : Choice). c.energy) (sym held)
            ∙ sym (energies_at z k q p h b);
        noted =
            notes_at z k q p h b
            ∙ ap (λ (c : Choice). c.who) held
            ∙ ap (λ x. get_or (leavers z z.kept k) x 0) (sym leaver)
            ∙ leaves_at z z.kept k f l;
      }

  -- from row q·c + p the note leads to the row from which the chosen candidate came
  leads : (k q p a : ℕ) → Rising (leavers z z.kept k) → q < size z k z.kept → p < length (z.strands k) → a < length (leavers z z.kept k)
      → row_of z (energies z k) k q p ≡ candidate z (energies z k) k q p a
      → below (leavers z z.kept k) (get_or (notes z (suc k)) (q * length (z.strands k) + p) 0) ≡ a
  leads k q p a rises h b within held =
      ap (below (leavers z z.kept k)) (notes_at z k q p h b ∙ ap (λ (c : Choice). c.who) held)
      ∙ below_at (leavers z z.kept k) a rises within

  came_lt : (k q a : ℕ) → q < size z k z.kept → a < length (leavers z z.kept k) → came_from z k q a < size z k (suc z.kept)
  came_lt k q a h b = rw (size_leavers z z.kept k) (digits_lt b h)

  -- the candidate that row i of block k + 1 holds, with the row of block k that it came from and to which the note leads
  record Came (k i : ℕ) : Type 0 where
    leaver : ℕ
    own : Digits i (size z k z.kept) (length (z.strands k))
    held :
        let c = length (z.strands k) in
        row_of z (energies z k) k (i / c) (i % c) ≡ candidate z (energies z k) k (i / c) (i % c) leaver
    led : row_before z k i ≡ came_from z k (i / length (z.strands k)) leaver
    inside : row_before z k i < size z k (suc z.kept)

  came : (k i : ℕ) → EachHasStrand z (suc k) → ((k : ℕ) → Rising (z.strands k)) → i < size z (suc k) (suc z.kept) → Came k i
  came k i some rise h =
      let c = length (z.strands k) in
      let q = i / c in
      let p = i % c in
      let w = size z k z.kept in
      let d : Digits i w c = digits i w c (subst (λ s. i < s) (size_more z k z.kept) h) in
      let found = chosen (candidate z (energies z k) k q p) (length (leavers z z.kept k)) (leavers_some z z.kept k (λ j b. some j (omega arith))) in
      let a = found.0 in
      let back : row_before z k i ≡ came_from z k q a =
      ap (λ s. came_from z k q (below (leavers z z.kept k) (get_or (notes z (suc k)) s 0))) (sym d.split)
      ∙ ap (came_from z k q) (leads k q p a (leavers_rise z rise z.kept k) d.whole d.rest found.1.within found.1.held) in
      record {
        leaver = a;
        own = d;
        held = found.1.held;
        led = back;
        inside = subst (λ r. r < size z k (suc z.kept)) (sym back) (came_lt k q a d.whole found.1.within);
      }

  -- one step back, where the filling that the row before leads to is known
  step : (k i : ℕ) → Came k i → Back z k (row_before z k i) (trace z k (row_before z k i))
      → Back z (suc k) i (get_or (z.strands k) (i % length (z.strands k)) 0 ∷ trace z k (row_before z k i))
  step k i at before =
      let c = length (z.strands k) in
      let f = trace z k (row_before z k i) in
      subst (λ r. Back z (suc k) r (get_or (z.strands k) (i % c) 0 ∷ f)) at.own.split
      (goes_on_lem k (i / c) (i % c) at.leaver f at.own.whole at.own.rest at.held (subst (λ r. Back z k r f) at.led before))

  pub leads_back : (k i : ℕ) → EachHasStrand z k → ((k : ℕ) → Rising (z.strands k)) → i < size z k (suc z.kept) → Back z k i (trace z k i)
  unfolding trace
  leads_back zero i some rise h = none i h
  leads_back (suc k) i some rise h =
      let at = came k i some rise h in step k i at (leads_back k (row_before z k i) (λ j g. some j (omega arith)) rise at.inside)

  -- on the way back each row leads to the rest of the filling
  pub on_the_way : (k i : ℕ) → EachHasStrand z k → ((k : ℕ) → Rising (z.strands k)) → i < size z k (suc z.kept) → (j : ℕ) → j ≤ k
      → (p : ℕ) × (p < size z j (suc z.kept)) × Back z j p (drop (k - j) (trace z k i))
  unfolding trace
  on_the_way zero i some rise h zero b = (i, h, leads_back zero i some rise h)
  on_the_way zero i some rise h (suc j) b = absurd (omega (arith, b))
  on_the_way (suc k) i some rise h j b =
      ⊎_elim here (earlier (on_the_way k (row_before z k i) (λ m g. some m (omega arith)) rise (came k i some rise h).inside j)) (eq-or-lt_of_le b)
    where
      rest : ℕ → Type 0
      rest d = (p : ℕ) × (p < size z j (suc z.kept)) × Back z j p (drop d (trace z (suc k) i))

      here : j ≡ suc k → rest (suc k - j)
      here e =
          let none : suc k - j ≡ 0 = omega (arith, e) in
          subst rest (sym none) (i, subst (λ m. i < size z m (suc z.kept)) (sym e) h, subst (λ m. Back z m i (trace z (suc k) i)) (sym e) (leads_back (suc k) i some rise h))

      earlier : (j ≤ k → rest (suc (k - j))) → j < suc k → rest (suc k - j)
      earlier before l = let one_more : suc k - j ≡ suc (k - j) = omega (arith, l) in subst rest (sym one_more) (before (le_of_suc-le-suc l))
