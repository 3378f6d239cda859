-- THE THEOREM of demand 3: whatever `mfe_configuration` is lent, what it answers and leaves is what the customer asked for. Assumes nothing.
use Prim.Native.Nat.{ℕ, zero, suc, ◌+◌, ◌-◌, ◌≤◌, ◌<◌}
use mathlib.Core.Path.{◌≡◌, refl, sym, ◌∙◌, ap, ap₂, subst}
use mathlib.Core.Bool.{Bool, true, false, true≢false}
use mathlib.Core.List.{List, ◌++◌}
use mathlib.Core.Logic.{⊎_elim}
use native.Mathlib.Nat.{mul-pos, eq-or-lt_of_le, le_of_suc-le-suc}
use native.Mathlib.Omega.{arith}
use lib.Ieee.{Float, nan, inf, binary64, of_bits, lt, le}
use lib.ListN.{length, get_or, take, drop, replicate, length-append, length-replicate, get_or-append}
use lib.Seq.{take_at, drop_at}
use borrow.Author.Tests.{not-false}
use contract.Lifetimes.{Lfts}
use denote.Triple.Clauses.{AtExit}
use borrow.Fn.Kinds.{Dens, res_t, ended_of}
use Rattle.std.specs.Prelude.{Result, Ok, Err}
use Rattle.units.specs.declared.refusal.Refusal.{Refusal}
use Rattle.units.specs.declared.refusal.Refusal.TheVariants.{BadSum}
use Rattle.units.specs.Refusals.{Verdict, passes, refuse_if, ◌▷◌, if_passes, answer as answer_of}
use Rattle.units.proofs.Verdicts.{no_fault, first_passes, rest_passes}
use Rattle.bay_system.specs.System.{System, system_of, bays}
use Rattle.bay_system.proofs.Fine.{Fine, fine}
use Rattle.energy_state.specs.StateG.{in_kcal}
use Rattle.bay_lists.specs.Lists.{Constraints, constraints_of}
use Rattle.bay_legal_at.specs.Layouts.{LegalLayout}
use Rattle.bay_given.specs.Given.{given_verdict}
use Rattle.bay_legal.specs.Sets.{sets_of, empty_verdict}
use Rattle.energy_bays.specs.Energies.{is_bad}
use Rattle.energy_bays.specs.ScanSum.{scan_sum_of}
use Rattle.energy_bays.proofs.Laws.{bad_is}
use Rattle.ledger_rows.specs.Scan.{Scan}
use Rattle.ledger_rows.specs.Blocks.{held_at, energies, notes, need, energy_table, note_table}
use Rattle.ledger_rows.specs.Trace.{trace, answer_row}
use Rattle.ledger_rows.specs.LeastEnergyTheorem.{Answered}
use Rattle.ledger_row_choice.proofs.Reading.{any_default}
use Rattle.run_least_layout.specs.Run.{system_scan, run_need, least_sum, least_layout}
use Rattle.run_least_layout.specs.Layouts.{LeastLayoutTheorem}
use Rattle.run_least_layout.proofs.Passed.{fit, run_is_right}
use Rattle.text_fronts.specs.Front.{front}
use Rattle.run_sets.specs.Finished.{table_after}
use Rattle.run_mfe.specs.Run.{early_verdict, sum_verdict, run_verdict, mfe_answer, layout_after, energies_after, notes_after}
use Rattle.run_mfe.proofs.mfe_configuration.Kinds as kinds
use Rattle.run_mfe.proofs.mfe_configuration.Reads as reads
use Rattle.run_audit_trail.specs.Rows.{rows_after, begins, needed}
use Rattle.run_audit_trail.specs.AuditTrail.{energy_in, noted_in, FirstLeast, AnsweredRun, EarlierTestsPass, Demand3}
use Rattle.run_audit_trail.proofs.Turned.{turned}
use Rattle.run_audit_trail.proofs.Choices.{rows_many, begins_at}
use Rattle.run_audit_trail.proofs.Trail.{trail, at_the_end}
use Rattle.run_audit_trail.proofs.Tests.{passes_early, early_passes, early_is_not_ten}

-- ---- what a verdict tells of an answer
an_energy : (v : Verdict) (x energy : Float) → answer_of v x ≡ Ok energy → (v ≡ passes) × (x ≡ energy)
an_energy (Ok _) x energy e = (refl, cc)
an_energy (Err r) x energy e = let clash : ⊥ = cc in absurd clash

-- a chain whose first test does not give 10 gives 10 where the test passes and the rest does
ten_later : (v w : Verdict) (x : Float) → (v ≡ Err BadSum → ⊥) → answer_of (v ▷ w) x ≡ Err BadSum → (v ≡ passes) × (w ≡ Err BadSum)
ten_later (Ok _) (Ok _) x other e = let clash : ⊥ = cc in absurd clash
ten_later (Ok _) (Err r) x other e = let same : r ≡ BadSum = cc in (refl, ap Err same)
ten_later (Err r) w x other e = let same : r ≡ BadSum = cc in absurd (other (ap Err same))

ten_by : (b : Bool) → refuse_if b BadSum ≡ Err BadSum → b ≡ true
ten_by true e = refl
ten_by false e = let clash : ⊥ = cc in absurd clash

kept : {A : Type 0} (v : Verdict) (new old : A) → (v ≡ passes → ⊥) → if_passes v new old ≡ old
kept (Ok _) new old no-pass = absurd (no-pass refl)
kept (Err r) new old no-pass = refl

kept_then : {A : Type 0} (v w : Verdict) (new old : A) → (v ≡ passes → ⊥) → if_passes (v ▷ w) new old ≡ old
kept_then (Ok _) w new old no-pass = absurd (no-pass refl)
kept_then (Err r) w new old no-pass = refl

-- a row's place lies before the end of the ledger
inside : (s : System) (c : Constraints) (m k i : ℕ) → k < m → i < length (rows_after s c k) → begins s c k + i < begins s c m
unfolding begins
inside s c zero k i h b = absurd (omega (arith, h))
inside s c (suc m) k i h b = ⊎_elim last (earlier (inside s c m k i)) (eq-or-lt_of_le (le_of_suc-le-suc h))
  where
    last : k ≡ m → begins s c k + i < begins s c m + length (rows_after s c m)
    last e = subst (λ (j : ℕ). begins s c k + i < begins s c j + length (rows_after s c j)) e (omega (arith, b))

    earlier : (k < m → i < length (rows_after s c k) → begins s c k + i < begins s c m) → k < m → begins s c k + i < begins s c m + length (rows_after s c m)
    earlier before l = omega (arith, before l b)

module _ (s : System) (c : Constraints) (r : Result Float Refusal) (l₀ l₁ : List ℕ) (e₀ e₁ : List Float) (n₀ n₁ : List ℕ)
    (answer : r ≡ mfe_answer s c (length l₀) (length e₀) (length n₀))
    (laid : l₁ ≡ layout_after s c (length e₀) (length n₀) l₀)
    (energies_held : e₁ ≡ energies_after s c (length l₀) (length n₀) e₀)
    (notes_held : n₁ ≡ notes_after s c (length l₀) (length e₀) n₀)
  where
    abbrev z : Scan
    z = system_scan s c

    abbrev n : ℕ
    n = bays s.sizes

    abbrev early : Verdict
    early = early_verdict s c (length l₀) (length e₀) (length n₀)

    abbrev Ready : Type 0
    Ready = EarlierTestsPass s c (length l₀) (length e₀) (length n₀)

    -- ---- once the earlier tests have passed
    module _ (ready : Ready) where
      passed : early ≡ passes
      passed = passes_early s c (length l₀) (length e₀) (length n₀) ready

      is_fine : Fine s
      is_fine = fine s ready.system

      right : LeastLayoutTheorem s c
      right =
          let empty = empty_verdict s.sizes.rows s.sizes.cols (sets_of s c) in
          run_is_right s c is_fine (first_passes empty _ (rest_passes (given_verdict s (length l₀) c) _ passed))

      need_is : need z n ≡ needed s c
      need_is = begins_at s c (fit s is_fine) n (omega arith)

      -- the front of a table, and the rest
      table_is : {A : Type 0} (blank : A) (new old : List A) → table_after early (sum_verdict s c) (run_need s c) blank new old ≡ front (if_passes (sum_verdict s c) new (replicate (run_need s c) blank)) old
      table_is blank new old = ap (λ (v : Verdict). if_passes v (front (if_passes (sum_verdict s c) new (replicate (run_need s c) blank)) old) old) passed

      front_long : {A : Type 0} (v : Verdict) (blank : A) (new : List A) → length new ≡ need z n → length (if_passes v new (replicate (run_need s c) blank)) ≡ needed s c
      front_long (Ok _) blank new long = long ∙ need_is
      front_long (Err r) blank new long = length-replicate (run_need s c) blank ∙ need_is

      beyond_of : {A : Type 0} (blank : A) (new old : List A) → length new ≡ need z n → drop (needed s c) (table_after early (sum_verdict s c) (run_need s c) blank new old) ≡ drop (needed s c) old
      beyond_of blank new old long =
          let written = if_passes (sum_verdict s c) new (replicate (run_need s c) blank) in
          let many = front_long (sum_verdict s c) blank new long in
          ap (drop (needed s c)) (table_is blank new old) ∙ drop_at written (drop (length written) old) (needed s c) many ∙ ap (λ (m : ℕ). drop m old) many

      -- ---- an energy
      module _ (no_fault_of : sum_verdict s c ≡ passes) where
        is_good : Answered z n
        is_good = not-false (lt (inf true) (least_sum s c)) (sym (bad_is (least_sum s c)) ∙ no_fault (is_bad (least_sum s c)) BadSum no_fault_of)

        table_at : {A : Type 0} (blank : A) (new old : List A) → table_after early (sum_verdict s c) (run_need s c) blank new old ≡ new ++ drop (length new) old
        table_at blank new old =
            table_is blank new old ∙ ap (λ (v : Verdict). front (if_passes v new (replicate (run_need s c) blank)) old) no_fault_of

        row_there : (k i : ℕ) → k < n → i < length (rows_after s c k) → begins s c k + i < need z n
        row_there k i h b = subst (λ (m : ℕ). begins s c k + i < m) (sym need_is) (inside s c n k i h b)

        run : (energy : Float) → in_kcal (least_sum s c) s.sizes.kelvin ≡ energy → AnsweredRun s c energy l₁ e₁ n₁
        run energy is =
            let ledger = right.ledger in
            let own = fit s is_fine in
            let sizes = is_fine.shape.sizes in
            let lay : l₁ ≡ least_layout s c = laid ∙ ap₂ (λ (v w : Verdict). if_passes (v ▷ w) (least_layout s c) l₀) passed no_fault_of in
            let at_e : e₁ ≡ energy_table z n ++ drop (length (energy_table z n)) e₀ = energies_held ∙ table_at (of_bits binary64 0) (energy_table z n) e₀ in
            let at_n : n₁ ≡ note_table z n ++ drop (length (note_table z n)) n₀ = notes_held ∙ table_at 0 (note_table z n) n₀ in
            let long_e : length (energy_table z n) ≡ need z n = ledger.needed.0 in
            let long_n : length (note_table z n) ≡ need z n = ledger.needed.1 in
            let held : (k i : ℕ) → k < n → i < length (rows_after s c k) → energy_in s c e₁ n₁ k i ≡ held_at (energies z (suc k)) i = λ k i h b.
            let place : begins s c k + i < length (energy_table z n) = subst (λ (m : ℕ). begins s c k + i < m) (sym long_e) (row_there k i h b) in
            ap (λ (l : List Float). get_or l (begins s c k + i) nan) at_e
            ∙ get_or-append (energy_table z n) (drop (length (energy_table z n)) e₀) nan (begins s c k + i) place
            ∙ any_default (energy_table z n) (begins s c k + i) nan (of_bits binary64 0) place
            ∙ ap (λ (m : ℕ). held_at (energy_table z n) (m + i)) (sym (begins_at s c own k (omega (arith, h))))
            ∙ ledger.energies_follow k i h (subst (λ (m : ℕ). i < m) (sym (rows_many s c own k h)) b) in
            let noted : (k i : ℕ) → k < n → i < length (rows_after s c k) → noted_in s c e₁ n₁ k i ≡ get_or (notes z (suc k)) i 0 = λ k i h b.
            let place : begins s c k + i < length (note_table z n) = subst (λ (m : ℕ). begins s c k + i < m) (sym long_n) (row_there k i h b) in
            ap (λ (l : List ℕ). get_or l (begins s c k + i) 0) at_n
            ∙ get_or-append (note_table z n) (drop (length (note_table z n)) n₀) 0 (begins s c k + i) place
            ∙ ap (λ (m : ℕ). get_or (note_table z n) (m + i) 0) (sym (begins_at s c own k (omega (arith, h))))
            ∙ ledger.notes_follow k i h (subst (λ (m : ℕ). i < m) (sym (rows_many s c own k h)) b) in
            let fits_e : needed s c ≤ length e₁ = omega (arith, ap length at_e, length-append (energy_table z n) (drop (length (energy_table z n)) e₀), long_e, need_is) in
            let fits_n : needed s c ≤ length n₁ = omega (arith, ap length at_n, length-append (note_table z n) (drop (length (note_table z n)) n₀), long_n, need_is) in
            let some : 0 < n = mul-pos sizes.some_rows sizes.some_cols in
            let all : suc (n - 1) ≡ n = omega (arith, some) in
            let least = no_fault (is_bad (least_sum s c)) BadSum no_fault_of in
            record {
              trail = trail s c own ledger e₁ n₁ held noted is_good (fits_e, fits_n);
              legal = subst (LegalLayout s c) (sym lay) right.legal;
              energy_is = sym is ∙ ap (λ (x : Float). in_kcal x s.sizes.kelvin) (sym right.sum ∙ ap (scan_sum_of s) (sym lay));
              no_smaller = λ other legal.
                  subst (λ (x : Float). le x (scan_sum_of s other) ≡ true) (sym right.sum ∙ ap (scan_sum_of s) (sym lay)) (right.no_smaller least other legal);
              at_the_end =
                  let i = (answer_row z n).who in
                  let filling = turned (trace z (suc (n - 1)) i) in
                  (n - 1, i, filling, subst (λ (l : List ℕ). FirstLeast s c e₁ n₁ l (n - 1) i filling) (sym lay) (at_the_end s c own ledger e₁ n₁ held noted is_good (n - 1) all));
            }

      -- ---- no energy
      bad_one : is_bad (least_sum s c) ≡ true → (layout : List ℕ) × LegalLayout s c layout × (is_bad (scan_sum_of s layout) ≡ true)
      bad_one = right.refused.0

      all_good : is_bad (least_sum s c) ≡ false → (layout : List ℕ) → LegalLayout s c layout → is_bad (scan_sum_of s layout) ≡ false
      all_good fine-sum layout legal = by (is_bad (scan_sum_of s layout)) refl
        where
          by : (b : Bool) → is_bad (scan_sum_of s layout) ≡ b → is_bad (scan_sum_of s layout) ≡ false
          by true e = absurd (true≢false (sym (right.refused.1 (layout, legal, e)) ∙ fine-sum))
          by false e = e

      none_bad : ((layout : List ℕ) → LegalLayout s c layout → is_bad (scan_sum_of s layout) ≡ false) → is_bad (least_sum s c) ≡ false
      none_bad all = ap is_bad (sym right.sum) ∙ all (least_layout s c) right.legal

      zeros : {A : Type 0} (blank : A) (new old : List A) → is_bad (least_sum s c) ≡ true
          → take (needed s c) (table_after early (sum_verdict s c) (run_need s c) blank new old) ≡ replicate (needed s c) blank
      zeros blank new old bad =
          let written = replicate (run_need s c) blank in
          ap (take (needed s c)) (table_is blank new old ∙ ap (λ (b : Bool). front (if_passes (refuse_if b BadSum) new written) old) bad)
          ∙ take_at written (drop (length written) old) (needed s c) (length-replicate (run_need s c) blank ∙ need_is)
          ∙ ap (λ (m : ℕ). replicate m blank) need_is

    -- ---- the record
    ready_if : early ≡ passes → Ready
    ready_if = early_passes s c (length l₀) (length e₀) (length n₀)

    answered_by : (energy : Float) → r ≡ Ok energy → (run_verdict s c (length l₀) (length e₀) (length n₀) ≡ passes) × (in_kcal (least_sum s c) s.sizes.kelvin ≡ energy)
    answered_by energy e = an_energy (run_verdict s c (length l₀) (length e₀) (length n₀)) (in_kcal (least_sum s c) s.sizes.kelvin) energy (sym answer ∙ e)

    ten : r ≡ Err BadSum → Ready × (is_bad (least_sum s c) ≡ true)
    ten e =
        let both = ten_later early (sum_verdict s c) (in_kcal (least_sum s c) s.sizes.kelvin) (early_is_not_ten s c (length l₀) (length e₀) (length n₀)).other (sym answer ∙ e) in
        (ready_if both.0, ten_by (is_bad (least_sum s c)) both.1)

    pub demand_3 : Demand3 s c r l₀ l₁ e₀ e₁ n₀ n₁
    demand_3 =
        record {
          answered = λ energy e.
              let by = answered_by energy e in
              run (ready_if (first_passes early (sum_verdict s c) by.0)) (rest_passes early (sum_verdict s c) by.0) energy by.1;
          answers = (
            λ found.
                let by = answered_by found.0 found.1 in
                let ready = ready_if (first_passes early (sum_verdict s c) by.0) in
                (ready, all_good ready (no_fault (is_bad (least_sum s c)) BadSum (rest_passes early (sum_verdict s c) by.0))),
            λ both. (
              in_kcal (least_sum s c) s.sizes.kelvin,
              answer
                  ∙ ap₂ (λ (v : Verdict) (b : Bool). answer_of (v ▷ refuse_if b BadSum) (in_kcal (least_sum s c) s.sizes.kelvin)) (passed both.0) (none_bad both.0 both.1),
            ),
          );
          refused = (
            λ e. let bad = ten e in (bad.0, bad_one bad.0 bad.1),
            λ both.
                answer
                ∙ ap₂ (λ (v : Verdict) (b : Bool). answer_of (v ▷ refuse_if b BadSum) (in_kcal (least_sum s c) s.sizes.kelvin)) (passed both.0)
                ((right both.0).refused.1 both.1),
          );
          cleared = λ e.
              let bad = ten e in (
                laid ∙ ap₂ (λ (v : Verdict) (b : Bool). if_passes (v ▷ refuse_if b BadSum) (least_layout s c) l₀) (passed bad.0) bad.1,
                ap (take (needed s c)) energies_held ∙ zeros bad.0 (of_bits binary64 0) (energy_table z n) e₀ bad.1,
                ap (take (needed s c)) notes_held ∙ zeros bad.0 0 (note_table z n) n₀ bad.1,
              );
          beyond = λ ready. (
            ap (drop (needed s c)) energies_held ∙ beyond_of ready (of_bits binary64 0) (energy_table z n) e₀ (right ready).ledger.needed.0,
            ap (drop (needed s c)) notes_held ∙ beyond_of ready 0 (note_table z n) n₀ (right ready).ledger.needed.1,
          );
          untouched = λ not_ready.
              let stops : early ≡ passes → ⊥ = λ e. not_ready (ready_if e) in
              (laid ∙ kept_then early (sum_verdict s c) (least_layout s c) l₀ stops, energies_held ∙ kept early _ e₀ stops, notes_held ∙ kept early _ n₀ stops);
        }

-- ---- of the call itself
-- the system and the constraints that a call is lent
abbrev pub system_lent : (κs : Lfts 7) → Dens κs kinds.ps → System
system_lent κs a = system_of a.0.now

abbrev pub constraints_lent : (κs : Lfts 7) → Dens κs kinds.ps → Constraints
constraints_lent κs a = constraints_of a.1.0.now

-- THE THEOREM: what meets the contract of `mfe_configuration` meets demand 3, of the layout, the energies and the bytes that were lent
pub the-ledger-is-an-audit-trail :
    (κs : Lfts 7) (lent : Dens κs kinds.ps) (answer : (res_t kinds.r κs).Denot) (exit : AtExit (ended_of 7 kinds.ps kinds.r) κs)
    → reads.Post κs lent answer exit
    → Demand3 (system_lent κs lent) (constraints_lent κs lent) answer
    lent.1.1.0.now exit.1.1.0.now
    lent.1.1.1.0.now exit.1.1.1.0.now
    lent.1.1.1.1.0.now exit.1.1.1.1.0.now
the-ledger-is-an-audit-trail κs lent answer exit post =
    demand_3 (system_lent κs lent) (constraints_lent κs lent) answer _ _ _ _ _ _ post.0 post.1.0 post.1.1.0 post.1.1.1
