-- Tables that hold the ledger of a system's scan are an audit trail. Assumes nothing.
use Prim.Native.Nat.{ℕ, suc, ◌-◌, ◌≤◌, ◌<◌}
use mathlib.Core.Path.{◌≡◌, sym, ◌∙◌, ap, ap₂, subst}
use mathlib.Core.Bool.{true, cond}
use mathlib.Core.List.{List}
use native.Mathlib.Decide.{dec_le}
use native.Mathlib.Omega.{arith}
use lib.Dec.{leb}
use lib.Ieee.{Float, lt, le}
use lib.ListN.{length, get_or, take, drop, get_or-eq_default}
use lib.Seq.{get_or-take, length-take-le}
use borrow.Author.Tests.{le-leb, lt-leb}
use Rattle.bay_system.specs.System.{System, bays}
use Rattle.bay_lists.specs.Lists.{Constraints}
use Rattle.bay_legal_at.specs.Legal.{is_legal}
use Rattle.bay_legal_at.specs.Layouts.{LegalFilling}
use Rattle.bay_scan_order.specs.Scan.{bay_at}
use Rattle.energy_bays.specs.ScanSum.{scanned_strand}
use Rattle.ledger_rows.specs.Scan.{Scan, Legal, scan_sum}
use Rattle.ledger_rows.specs.Blocks.{held_at, energies, notes}
use Rattle.ledger_rows.specs.Trace.{trace, answer_row, answer, layout}
use Rattle.ledger_rows.specs.LeastEnergyTheorem.{LeastEnergyTheorem, Answered, windows, EndsIn as ScanEndsIn}
use Rattle.run_least_layout.specs.Run.{system_scan, row_by_row}
use Rattle.run_least_layout.proofs.Fillings.{Fit, newest_first, newest_at, strands_legal, strands_sum, legal_long, each_legal, filling_back}
use Rattle.run_audit_trail.specs.Rows.{shorter_side, rows_after, needed, EndsIn, strand_that_left, filling_sum}
use Rattle.run_audit_trail.specs.AuditTrail.{energy_in, noted_in, LeadsBack, AuditTrail, FirstLeast}
use Rattle.run_audit_trail.proofs.Turned.{turned, length_turned, turned_at, turned_twice, turned_take}
use Rattle.run_audit_trail.proofs.Choices.{kept_is, rows_many, window_turned, ends_turned, turned_ends}

module _ (s : System) (c : Constraints) (fit : Fit s) where
  abbrev z : Scan
  z = system_scan s c

  abbrev n : ℕ
  n = bays s.sizes

  -- ---- a filling in scan order, and newest first
  legal_turned : (k : ℕ) (f : List ℕ) → k ≤ n → LegalFilling s c k f → Legal z k (turned f)
  legal_turned k f h l =
      subst (λ (m : ℕ). Legal z k (newest_first (λ j. get_or f j 0) m)) (sym l.long) (strands_legal s c fit (λ j. get_or f j 0) k h l.each k (omega arith))

  sum_turned : (k : ℕ) (f : List ℕ) → k ≤ n → LegalFilling s c k f → scan_sum z (turned f) ≡ filling_sum s k f
  sum_turned k f h l =
      ap (λ (m : ℕ). scan_sum z (newest_first (λ j. get_or f j 0) m)) l.long ∙ strands_sum s c fit (λ j. get_or f j 0) k h l.each k (omega arith)

  turned_legal : (k : ℕ) (g : List ℕ) → k ≤ n → Legal z k g → LegalFilling s c k (turned g)
  turned_legal k g h l =
      let long = legal_long s c fit k g l in
      record {
        long = length_turned g ∙ long;
        each = λ j b.
            let inside : j < length g = omega (arith, b, long) in
            ap (is_legal s c (bay_at s.sizes.rows s.sizes.cols j)) (turned_at g j inside ∙ ap (λ (m : ℕ). get_or g (m - suc j) 0) long)
            ∙ each_legal s c fit k g l h j b;
      }

  turned_sum : (k : ℕ) (g : List ℕ) → k ≤ n → Legal z k g → filling_sum s k (turned g) ≡ scan_sum z g
  turned_sum k g h l = sym (sum_turned k (turned g) h (turned_legal k g h l)) ∙ ap (scan_sum z) (turned_twice g)

  -- the strand that left the window
  left_turned : (k : ℕ) (f : List ℕ) → length f ≡ suc k → get_or (turned f) (suc z.kept) 0 ≡ strand_that_left s k f
  left_turned k f long = ap (λ (m : ℕ). get_or (turned f) m 0) (kept_is s c fit) ∙ by (dec_le (shorter_side s) k)
    where
      by : Dec (shorter_side s ≤ k) → get_or (turned f) (shorter_side s) 0 ≡ strand_that_left s k f
      by (yes h) =
          let inside : shorter_side s < length f = omega (arith, h, long) in
          let place : length f - suc (shorter_side s) ≡ k - shorter_side s = omega (arith, h, long) in
          rw (le-leb (shorter_side s) k h) (turned_at f (shorter_side s) inside ∙ ap (λ (j : ℕ). get_or f j 0) place)
      by (no h) =
          let past : length (turned f) ≤ shorter_side s = omega (arith, h, long, length_turned f) in
          rw (lt-leb (shorter_side s) k (omega (arith, h))) (get_or-eq_default (turned f) 0 past)

  module _ (theorem : LeastEnergyTheorem z n) (e : List Float) (l : List ℕ)
      (held : (k i : ℕ) → k < n → i < length (rows_after s c k) → energy_in s c e l k i ≡ held_at (energies z (suc k)) i)
      (noted : (k i : ℕ) → k < n → i < length (rows_after s c k) → noted_in s c e l k i ≡ get_or (notes z (suc k)) i 0)
    where
      in_windows : (k i : ℕ) → k < n → i < length (rows_after s c k) → i < length (windows z (suc k))
      in_windows k i h b = subst (λ (m : ℕ). i < m) (sym (rows_many s c fit k h)) b

      in_rows : (k i : ℕ) → k < n → i < length (windows z (suc k)) → i < length (rows_after s c k)
      in_rows k i h b = subst (λ (m : ℕ). i < m) (rows_many s c fit k h) b

      -- ---- the notes of a filling that a row leads back to, on the way
      on_the_way : (k i : ℕ) → k < n → i < length (rows_after s c k) → (j p : ℕ) → j ≤ k → p < length (rows_after s c j)
          → EndsIn s c j p (take (suc j) (turned (trace z (suc k) i))) → noted_in s c e l j p ≡ strand_that_left s j (turned (trace z (suc k) i))
      on_the_way k i h b j p before q ends =
          let g = trace z (suc k) i in
          let f = turned g in
          let f' = take (suc j) f in
          let earlier : j < n = omega (arith, before, h) in
          let back = theorem.leads_back k i h (in_windows k i h b) in
          let way = theorem.on_the_way k i j h (in_windows k i h b) before in
          let p' = way.0 in
          let long : length f ≡ suc k = (turned_legal (suc k) g h back.legal).long in
          let short : length f' ≡ suc j = length-take-le (suc j) f (omega (arith, before, long)) in
          let rest : turned f' ≡ drop (suc k - suc j) g =
          turned_take f (suc j) (omega (arith, before, long)) ∙ ap₂ (λ (d : ℕ) (r : List ℕ). drop (d - suc j) r) long (turned_twice g) in
          let own : ScanEndsIn z (suc j) p (drop (suc k - suc j) g) = subst (ScanEndsIn z (suc j) p) rest (ends_turned s c fit j p f' earlier short ends) in
          let same : p ≡ p' = theorem.one_row j earlier p p' (in_windows j p earlier q) way.1 (sym own ∙ way.2.ends) in
          let place : j - shorter_side s < suc j = omega arith in
          noted j p earlier q
          ∙ ap (λ (r : ℕ). get_or (notes z (suc j)) r 0) same
          ∙ way.2.noted
          ∙ ap (λ (r : List ℕ). get_or r (suc z.kept) 0) (sym rest)
          ∙ left_turned j f' short
          ∙ ap (λ (t : ℕ). cond (leb (shorter_side s) j) t 0) (get_or-take (suc j) f (j - shorter_side s) 0 place)

      pub leads : (k i : ℕ) → k < n → i < length (rows_after s c k) → LeadsBack s c e l k i (turned (trace z (suc k) i))
      leads k i h b =
          let g = trace z (suc k) i in
          let back = theorem.leads_back k i h (in_windows k i h b) in
          let own = turned_legal (suc k) g h back.legal in
          record {
            legal = own;
            ends = turned_ends s c fit k i (turned g) h own.long (subst (ScanEndsIn z (suc k) i) (sym (turned_twice g)) back.ends);
            sum = turned_sum (suc k) g h back.legal ∙ back.sum ∙ sym (held k i h b);
            noted = on_the_way k i h b;
          }

      -- ---- the trail
      module _ (answered : Answered z n) where
        pub trail : (needed s c ≤ length e) × (needed s c ≤ length l) → AuditTrail s c e l
        trail there =
            record {
              every_choice = λ k h f legal.
                  let found = theorem.every_choice k h (turned f) (legal_turned (suc k) f h legal) in
                  (found.0, in_rows k found.0 h found.1, turned_ends s c fit k found.0 f h legal.long found.2);
              one_row = λ k i j h a b same.
                  theorem.one_row k h i j (in_windows k i h a) (in_windows k j h b)
                  (window_turned s c fit k i h ∙ ap turned same ∙ sym (window_turned s c fit k j h));
              all_there = there;
              least = λ k i h b f legal ends.
                  subst (λ (x : Float). le x (filling_sum s (suc k) f) ≡ true) (sym (held k i h b))
                  (subst (λ (x : Float). le (held_at (energies z (suc k)) i) x ≡ true) (sum_turned (suc k) f h legal)
                  (theorem.least answered k i h (in_windows k i h b) (turned f) (legal_turned (suc k) f h legal) (ends_turned s c fit k i f h legal.long ends)));
              leads_back = λ k i h b. (turned (trace z (suc k) i), leads k i h b);
              lowest_leaver = λ k i h b f legal ends less.
                  subst (λ (x : Float). lt x (filling_sum s (suc k) f) ≡ true) (sym (held k i h b))
                  (subst (λ (x : Float). lt (held_at (energies z (suc k)) i) x ≡ true) (sum_turned (suc k) f h legal)
                  (theorem.lowest_leaver answered k i h (in_windows k i h b) (turned f) (legal_turned (suc k) f h legal) (ends_turned s c fit k i f h legal.long ends)
                  (lower k i h b f legal less)));
            }
          where
            lower : (k i : ℕ) → k < n → i < length (rows_after s c k) → (f : List ℕ) → LegalFilling s c (suc k) f → strand_that_left s k f < noted_in s c e l k i
                → get_or (turned f) (suc z.kept) 0 < get_or (notes z (suc k)) i 0
            lower k i h b f legal less =
                subst (λ (t : ℕ). get_or (turned f) (suc z.kept) 0 < t) (noted k i h b) (subst (λ (t : ℕ). t < noted_in s c e l k i) (sym (left_turned k f legal.long)) less)

        -- ---- the layout, at the end of the trail
        pub at_the_end : (last : ℕ) → suc last ≡ n → FirstLeast s c e l (row_by_row s.sizes.rows s.sizes.cols (layout z n)) last (answer_row z n).who (turned (trace z (suc last) (answer_row z n).who))
        at_the_end last all =
            let i = (answer_row z n).who in
            let g = layout z n in
            let h : last < n = omega (arith, all) in
            let b : i < length (rows_after s c last) = in_rows last i h (subst (λ (m : ℕ). i < length (windows z m)) (sym all) theorem.answer_there) in
            let same : trace z (suc last) i ≡ g = ap (λ (m : ℕ). trace z m i) all in
            let legal = theorem.legal_layout in
            let long = legal_long s c fit n g legal in
            let energy : energy_in s c e l last i ≡ answer z n =
            sym (leads last i h b).sum
            ∙ turned_sum (suc last) (trace z (suc last) i) h (theorem.leads_back last i h (in_windows last i h b)).legal
            ∙ ap (scan_sum z) same
            ∙ theorem.answered_sum in
            record {
              all_bays = all;
              inside = b;
              leads = leads last i h b;
              laid = λ k under.
                  let inside : k < length g = omega (arith, under, all, long) in
                  let place : n - suc k < n = omega (arith, under, all) in
                  let again : n - suc (n - suc k) ≡ k = omega (arith, under, all) in
                  sym
                  (ap (λ (r : List ℕ). get_or (turned r) k 0) same
                  ∙ turned_at g k inside
                  ∙ ap (λ (m : ℕ). get_or g (m - suc k) 0) long
                  ∙ ap (λ (r : List ℕ). get_or r (n - suc k) 0) (sym (filling_back s c fit g legal))
                  ∙ newest_at (scanned_strand s (row_by_row s.sizes.rows s.sizes.cols g)) n (n - suc k) place
                  ∙ ap (scanned_strand s (row_by_row s.sizes.rows s.sizes.cols g)) again);
              least_row = λ j other.
                  subst (λ (x : Float). le x (energy_in s c e l last j) ≡ true) (sym energy)
                  (subst (λ (x : Float). le (answer z n) x ≡ true) (ap (λ (m : ℕ). held_at (energies z m) j) (sym all) ∙ sym (held last j h other))
                  (theorem.least_row answered j (subst (λ (m : ℕ). j < length (windows z m)) all (in_windows last j h other))));
              first = λ j less.
                  let other : j < length (rows_after s c last) = omega (arith, less, b) in
                  subst (λ (x : Float). lt x (energy_in s c e l last j) ≡ true) (sym energy)
                  (subst (λ (x : Float). lt (answer z n) x ≡ true) (ap (λ (m : ℕ). held_at (energies z m) j) (sym all) ∙ sym (held last j h other))
                  (theorem.first_row answered j less));
            }
