-- THE THEOREM: the ledger, the layout and the answer of `specs/` are what the customer asks for, over any legal strands and any added numbers.
-- Each bay must have a legal strand, as refusal 7 sees to, and strands are walked by rising number. Assumes nothing.
use mathlib.Core.Path.{◌≡◌, sym, ap, ◌∙◌, subst}
use mathlib.Core.Logic.{⊎_elim}
use mathlib.Core.Bool.{true}
use mathlib.Core.List.{List, [], ◌∷◌}
use Prim.Native.Nat.{ℕ, zero, suc, ◌+◌, ◌*◌, ◌/◌, ◌%◌, ◌<◌, ◌≤◌}
use native.Mathlib.Nat.{eq-or-lt_of_le, le_of_suc-le-suc}
use native.Mathlib.Omega.{arith}
use lib.Arith.{digits_lt}
use lib.Ieee.{binary64, lt, le}
use lib.ListN.{length, get_or}
use Rattle.floats.specs.declared.Choice.{Choice}
use Rattle.floats.specs.Values.{Good, Bad}
use Rattle.floats.proofs.Order.{le_trans}
use Rattle.floats.proofs.Good.{good_or_bad, good_not_bad}
use Rattle.floats.proofs.Add.{good_left}
use Rattle.ledger_rows.specs.Scan.{Scan, Legal, scan_sum, EachHasStrand, Rising}
use Rattle.ledger_rows.specs.Blocks.{size, leavers, held_at, candidate, row_of, energies, notes}
use Rattle.ledger_rows.specs.Trace.{trace, answer_row, answer, layout}
use Rattle.ledger_rows.specs.LeastEnergyTheorem.{windows, EndsIn, LeadsBack, LeastOf, Answered, LeastEnergyTheorem}
use Rattle.ledger_rows.proofs.Choosing.{Chosen, chosen}
use Rattle.ledger_rows.proofs.Numbering.{Digits, digits, row, row_lt, size_more, size_some, size_leavers, leavers_some}
use Rattle.ledger_rows.proofs.Rows.{energies_at, notes_at, length_energies, length_notes}
use Rattle.ledger_rows.proofs.Least.{least, lower_leaver}
use Rattle.ledger_rows.proofs.Places.{leavers_rise}
use Rattle.ledger_rows.proofs.LeadsBack.{Back, leads_back, on_the_way}
use Rattle.ledger_rows.proofs.Windows.{length_choices, choice_of, choice_once}
use Rattle.ledger_rows.proofs.Tables.{length_energy_table, length_note_table, energies_follow, notes_follow}

-- every row of block k is good
abbrev RowsGood : Scan → ℕ → Type 0
RowsGood z k = (i : ℕ) → i < size z k (suc z.kept) → Good (held_at (energies z k) i)

module _ (z : Scan) where
  -- ---- a bad row makes a row of the next block bad, so good rows come from good rows
  good_before : (k : ℕ) → EachHasStrand z (suc k) → RowsGood z (suc k) → RowsGood z k
  good_before k some good i h =
      let w = size z k z.kept in
      let c = length (z.strands k) in
      let d : Digits i (length (leavers z z.kept k)) w = digits i (length (leavers z z.kept k)) w (subst (λ s. i < s) (size_leavers z z.kept k) h) in
      let pos : 0 < c = some k (omega arith) in
      let next = candidate z (energies z k) k (i % w) 0 in
      let found = chosen next (length (leavers z z.kept k)) (leavers_some z z.kept k (λ j b. some j (omega arith))) in
      let below : i % w * c + 0 < size z (suc k) (suc z.kept) = rw (size_more z k z.kept) (digits_lt d.rest pos) in
      let held : held_at (energies z (suc k)) (i % w * c + 0) ≡ (next found.0).energy =
      energies_at z k (i % w) 0 d.rest pos ∙ ap (λ (r : Choice). r.energy) found.1.held in
      let own : Good (next (i / w)).energy = (found.1.least (subst (λ x. Good x) held (good (i % w * c + 0) below)) (i / w) d.whole).0 in
      subst (λ r. Good (held_at (energies z k) r)) d.split (good_left binary64 _ _ own)

  good_down : (n : ℕ) → EachHasStrand z n → RowsGood z n → (k : ℕ) → k ≤ n → RowsGood z k
  good_down zero some good k h = let e : k ≡ 0 = omega arith in rw e good
  good_down (suc n) some good k h =
      ⊎_elim (λ (e : k ≡ suc n). rw e good) (λ (l : k < suc n). good_down n (λ i b. some i (omega arith)) (good_before n some good) k (le_of_suc-le-suc l)) (eq-or-lt_of_le h)

  -- ---- the answer's row
  abbrev last_rows : ℕ → ℕ → Choice
  last_rows n i = record { energy = held_at (energies z n) i; who = i }

  abbrev AnswerAt : (n i : ℕ) → Type 0
  AnswerAt n i = Chosen (last_rows n) (size z n (suc z.kept)) i

  answer_at : (n : ℕ) → EachHasStrand z n → (i : ℕ) × AnswerAt n i
  answer_at n some = chosen (last_rows n) (size z n (suc z.kept)) (size_some z n (suc z.kept) some)

  answer_row_holds : (n i : ℕ) → AnswerAt n i → answer_row z n ≡ last_rows n i
  unfolding answer_row
  answer_row_holds n i at = at.held

  module _ (n : ℕ) (some : EachHasStrand z n) (rise : (k : ℕ) → Rising (z.strands k)) where
    chose : (i : ℕ) × AnswerAt n i
    chose = answer_at n some

    is_answer : answer z n ≡ held_at (energies z n) chose.0
    is_answer = ap (λ (r : Choice). r.energy) (answer_row_holds n chose.0 chose.1)

    is_row : (answer_row z n).who ≡ chose.0
    is_row = ap (λ (r : Choice). r.who) (answer_row_holds n chose.0 chose.1)

    earlier : (k : ℕ) → k < n → EachHasStrand z (suc k)
    earlier k h i b = some i (omega arith)

    -- ---- an answered run has good rows alone
    good_last : Answered z n → RowsGood z n
    good_last g i h = (chose.1.least (subst (λ x. Good x) is_answer g) i h).0

    good_rows : Answered z n → (k : ℕ) → k ≤ n → RowsGood z k
    good_rows g = good_down n some (good_last g)

    -- ---- rows and the choices of fillings
    in_block : (k i : ℕ) → i < length (windows z k) → i < size z k (suc z.kept)
    in_block k i h = subst (λ s. i < s) (length_choices z k (suc z.kept)) h

    in_windows : (k i : ℕ) → i < size z k (suc z.kept) → i < length (windows z k)
    in_windows k i h = subst (λ s. i < s) (sym (length_choices z k (suc z.kept))) h

    own_choice : (k : ℕ) (f : List ℕ) (l : Legal z k f) → EndsIn z k (row z k (suc z.kept) f l) f
    own_choice k f l = sym (choice_of z k (suc z.kept) f l)

    row_of_choice : (k i : ℕ) (f : List ℕ) (l : Legal z k f) → i < size z k (suc z.kept) → EndsIn z k i f → row z k (suc z.kept) f l ≡ i
    row_of_choice k i f l h e = choice_once z rise k (suc z.kept) (row z k (suc z.kept) f l) i (row_lt z k (suc z.kept) f l) h (choice_of z k (suc z.kept) f l ∙ e)

    least_of : (k i : ℕ) → RowsGood z k → i < size z k (suc z.kept) → LeastOf z k i
    least_of k i good h f l e =
        let same = row_of_choice k i f l h e in
        subst (λ r. le (held_at (energies z k) r) (scan_sum z f) ≡ true) same (least z k f l (good (row z k (suc z.kept) f l) (row_lt z k (suc z.kept) f l))).1

    lower_left : (k i : ℕ) → RowsGood z (suc k) → i < size z (suc k) (suc z.kept) → (f : List ℕ) → Legal z (suc k) f → EndsIn z (suc k) i f
        → get_or f (suc z.kept) 0 < get_or (notes z (suc k)) i 0 → lt (held_at (energies z (suc k)) i) (scan_sum z f) ≡ true
    unfolding row scan_sum
    lower_left k i good h [] l e less = absurd l
    lower_left k i good h (t ∷ f) l e less =
        let q = row z k z.kept f l.1 in
        let c = length (z.strands k) in
        let same : q * c + l.0.0 ≡ i = row_of_choice (suc k) i (t ∷ f) l h e in
        let inside = row_lt z k z.kept f l.1 in
        let energy : held_at (energies z (suc k)) i ≡ (row_of z (energies z k) k q l.0.0).energy =
        ap (held_at (energies z (suc k))) (sym same) ∙ energies_at z k q l.0.0 inside l.0.1 in
        let note : get_or (notes z (suc k)) i 0 ≡ (row_of z (energies z k) k q l.0.0).who =
        ap (λ r. get_or (notes z (suc k)) r 0) (sym same) ∙ notes_at z k q l.0.0 inside l.0.1 in
        rw energy
        (lower_leaver z k t f l (leavers_rise z rise z.kept k) (subst (λ x. Good x) energy (good i h)) (subst (λ s. get_or f z.kept 0 < s) note less))

    leads : (k i : ℕ) (f : List ℕ) → Back z k i f → LeadsBack z k i f
    leads k i f b = record { legal = b.legal; ends = own_choice k f b.legal ∙ ap (λ r. get_or (windows z k) r []) b.at; sum = b.sum; noted = b.noted }

    -- ---- the layout
    last : Back z n chose.0 (layout z n)
    last = rw is_row (leads_back z n chose.0 some rise chose.1.within)

    smallest : Answered z n → (f : List ℕ) (l : Legal z n f) → Good (scan_sum z f) × (le (answer z n) (scan_sum z f) ≡ true)
    smallest g f l =
        let r = row z n (suc z.kept) f l in
        let inside = row_lt z n (suc z.kept) f l in
        let own = least z n f l (good_last g r inside) in
        let under : le (held_at (energies z n) chose.0) (held_at (energies z n) r) ≡ true = (chose.1.least (subst (λ x. Good x) is_answer g) r inside).1 in
        (own.0, rw is_answer (le_trans (held_at (energies z n) chose.0) (held_at (energies z n) r) (scan_sum z f) under own.1))

    answered_sum : scan_sum z (layout z n) ≡ answer z n
    answered_sum = last.sum ∙ sym is_answer

    refused_by : Bad (answer z n) → (f : List ℕ) × Legal z n f × Bad (scan_sum z f)
    refused_by b = (layout z n, last.legal, rw answered_sum b)

    refused_if : ((f : List ℕ) × Legal z n f × Bad (scan_sum z f)) → Bad (answer z n)
    refused_if w = ⊎_elim (λ g. absurd (good_not_bad (scan_sum z w.0) (smallest g w.0 w.1).0 w.2)) (λ b. b) (good_or_bad (answer z n))

    pub the_ledger_is_right : LeastEnergyTheorem z n
    the_ledger_is_right =
        record {
          energy_rows = λ k h. length_energies z k ∙ sym (length_choices z (suc k) (suc z.kept));
          note_rows = λ k h. length_notes z k ∙ sym (length_choices z (suc k) (suc z.kept));
          every_choice = λ k h f l. (row z (suc k) (suc z.kept) f l, in_windows (suc k) _ (row_lt z (suc k) (suc z.kept) f l), own_choice (suc k) f l);
          one_row = λ k h i j a b e. choice_once z rise (suc k) (suc z.kept) i j (in_block (suc k) i a) (in_block (suc k) j b) e;
          energies_follow = λ k i h b. energies_follow z n k i h (in_block (suc k) i b);
          notes_follow = λ k i h b. notes_follow z n k i h (in_block (suc k) i b);
          needed = (length_energy_table z n, length_note_table z n);
          least = λ g k i h b. least_of (suc k) i (good_rows g (suc k) h) (in_block (suc k) i b);
          lowest_leaver = λ g k i h b. lower_left k i (good_rows g (suc k) h) (in_block (suc k) i b);
          leads_back = λ k i h b. leads (suc k) i (trace z (suc k) i) (leads_back z (suc k) i (earlier k h) rise (in_block (suc k) i b));
          on_the_way = λ k i j h b l.
              let back = on_the_way z (suc k) i (earlier k h) rise (in_block (suc k) i b) (suc j) (omega (arith, l)) in
              (back.0, in_windows (suc j) back.0 back.1, leads (suc j) back.0 _ back.2);
          legal_layout = last.legal;
          answered_sum = answered_sum;
          no_smaller = λ g f l. (smallest g f l).1;
          answer_there = in_windows n (answer_row z n).who (subst (λ r. r < size z n (suc z.kept)) (sym is_row) chose.1.within);
          least_row = λ g i h. rw is_answer (chose.1.least (subst (λ x. Good x) is_answer g) i (in_block n i h)).1;
          first_row = λ g i h. rw is_answer (chose.1.first (subst (λ x. Good x) is_answer g) i (subst (λ r. i < r) is_row h));
          refused = (refused_by, refused_if);
        }
