-- The tests before the energies, one by one and as the call's verdict; and that none of them is 10. Assumes nothing.
use Prim.Native.Nat.{ℕ, ◌+◌, ◌/◌, ◌≤◌}
use mathlib.Core.Path.{◌≡◌, refl, sym, ◌∙◌, ap, ap₂}
use mathlib.Core.Bool.{Bool, true, false, not, ◌&&◌, ◌||◌}
use mathlib.Core.List.{List}
use native.Mathlib.Omega.{arith}
use lib.Dec.{eqb, ltb}
use lib.ListN.{length, drop}
use borrow.Author.Tests.{eqb-true, eqb-false, eq-eqb, ltb-false, le-ltb, not-false}
use Rattle.std.specs.Prelude.{Ok, Err}
use Rattle.units.specs.declared.refusal.Refusal.{Refusal}
use Rattle.units.specs.declared.refusal.Refusal.TheVariants.{Size, Glue, Energy, Seed, Shape, NoLegalStrand, TooManyRows, NoRoom, BadSum}
use Rattle.units.specs.Refusals.{Verdict, passes, refuse_if, ◌▷◌, number_of}
use Rattle.units.specs.Limits.{most_rows}
use Rattle.units.specs.Finite.{finite}
use Rattle.units.specs.Places.{first_failing, place_verdict}
use Rattle.units.proofs.Tests.{and_left, and_right}
use Rattle.units.proofs.Verdicts.{no_fault, first_passes, rest_passes}
use Rattle.bay_system.specs.System.{System, bays, sizes_fit, lengths_fit, is_log, first_bad_seed, system_verdict}
use Rattle.bay_system.proofs.Fine.{fine}
use Rattle.bay_lists.specs.Lists.{Constraints, offsets_shaped}
use Rattle.bay_scan_order.specs.Scan.{bay_at}
use Rattle.bay_given.specs.Given.{shape_verdict, given_verdict}
use Rattle.bay_legal.specs.Sets.{sets_of, first_empty, empty_verdict}
use Rattle.bay_legal.proofs.Seven.{seven_of_a_system}
use Rattle.run_least_layout.specs.Run.{run_need}
use Rattle.run_least_layout.proofs.Passed.{fit}
use Rattle.run_room.specs.Room.{room_verdict}
use Rattle.run_mfe.specs.Run.{early_verdict}
use Rattle.run_audit_trail.specs.Rows.{needed}
use Rattle.run_audit_trail.specs.AuditTrail.{EarlierTestsPass}
use Rattle.run_audit_trail.proofs.Choices.{begins_at}

both_pass : (v w : Verdict) → v ≡ passes → w ≡ passes → v ▷ w ≡ passes
both_pass (Ok _) w e f = f
both_pass (Err r) w e f = e

or_none : (a b : Bool) → (a || b) ≡ false → (a ≡ false) × (b ≡ false)
or_none true b e = (e, cc)
or_none false b e = (refl, e)

-- ---- 8 and 9
room_passes : (need energies leaving : ℕ) → need ≤ most_rows → need ≤ energies → need ≤ leaving → room_verdict need energies leaving ≡ passes
room_passes need energies leaving few e l = rw (le-ltb most_rows need few, le-ltb energies need e, le-ltb leaving need l)

module _ (need energies leaving : ℕ) (e : room_verdict need energies leaving ≡ passes) where
  passed_8 : need ≤ most_rows
  passed_8 =
      let short = refuse_if (ltb energies need || ltb leaving need) (NoRoom need) in
      ltb-false most_rows need (no_fault (ltb most_rows need) TooManyRows (first_passes (refuse_if (ltb most_rows need) TooManyRows) short e))

  passed_9 : (need ≤ energies) × (need ≤ leaving)
  passed_9 =
      let short = refuse_if (ltb energies need || ltb leaving need) (NoRoom need) in
      let both = or_none (ltb energies need) (ltb leaving need)
      (no_fault (ltb energies need || ltb leaving need) (NoRoom need) (rest_passes (refuse_if (ltb most_rows need) TooManyRows) short e)) in
      (ltb-false energies need both.0, ltb-false leaving need both.1)

module _ (s : System) (c : Constraints) (layout energies leaving : ℕ) where
  -- what the ledger needs, where the system passed
  needs : system_verdict s ≡ passes → run_need s c ≡ needed s c
  needs e = begins_at s c (fit s (fine s e)) (bays s.sizes) (omega arith)

  abbrev shape : Verdict
  shape = shape_verdict s.sizes layout c

  abbrev empty : Verdict
  empty = empty_verdict s.sizes.rows s.sizes.cols (sets_of s c)

  abbrev room : Verdict
  room = room_verdict (run_need s c) energies leaving

  pub passes_early : EarlierTestsPass s c layout energies leaving → early_verdict s c layout energies leaving ≡ passes
  passes_early t =
      let need = needs t.system in
      let shaped : shape ≡ passes =
      ap₂ (λ (a b : Bool). refuse_if (not (a && b)) Shape) (eq-eqb layout (bays s.sizes) t.layout_fits) t.offsets_shaped_holds in
      let fits : room ≡ passes =
      ap (λ (r : ℕ). room_verdict r energies leaving) need ∙ room_passes (needed s c) energies leaving t.few_rows t.energies_fit t.leaving_fits in
      both_pass (given_verdict s layout c) (empty ▷ room) (both_pass (system_verdict s) shape t.system shaped)
      (both_pass empty room ((seven_of_a_system s c t.system).passed.1 t.some_strand) fits)

  pub early_passes : early_verdict s c layout energies leaving ≡ passes → EarlierTestsPass s c layout energies leaving
  early_passes e =
      let given = first_passes (given_verdict s layout c) (empty ▷ room) e in
      let system = first_passes (system_verdict s) shape given in
      let shaped : (eqb layout (bays s.sizes) && offsets_shaped (bays s.sizes) c) ≡ true =
      not-false (eqb layout (bays s.sizes) && offsets_shaped (bays s.sizes) c)
      (no_fault (not (eqb layout (bays s.sizes) && offsets_shaped (bays s.sizes) c)) Shape (rest_passes (system_verdict s) shape given)) in
      let last = rest_passes (given_verdict s layout c) (empty ▷ room) e in
      let fits : room_verdict (needed s c) energies leaving ≡ passes =
      ap (λ (r : ℕ). room_verdict r energies leaving) (sym (needs system)) ∙ rest_passes empty room last in
      let long = passed_9 (needed s c) energies leaving fits in
      record {
        system = system;
        layout_fits = eqb-true layout (bays s.sizes) (and_left _ _ shaped);
        offsets_shaped_holds = and_right (eqb layout (bays s.sizes)) (offsets_shaped (bays s.sizes) c) shaped;
        some_strand = (seven_of_a_system s c system).passed.0 (first_passes empty room last);
        few_rows = passed_8 (needed s c) energies leaving fits;
        energies_fit = long.0;
        leaving_fits = long.1;
      }

-- ---- none of these tests gives 10
pub record NotTen (v : Verdict) : Type 0 where
  pub other : v ≡ Err BadSum → ⊥

not_if : (b : Bool) (r : Refusal) → eqb (number_of r) 10 ≡ false → NotTen (refuse_if b r)
not_if true r no-ten = record { other = λ e. let same : r ≡ BadSum = cc in eqb-false (number_of r) 10 no-ten (ap number_of same) }
not_if false r no-ten = record { other = λ e. cc }

not_then : {v w : Verdict} → NotTen v → NotTen w → NotTen (v ▷ w)
not_then {v} {w} p q = by v p
  where
    by : (v : Verdict) → NotTen v → NotTen (v ▷ w)
    by (Ok _) first = q
    by (Err r) first = first

not_place : {A : Type 0} (refusal : ℕ → Refusal) (from : ℕ) (test : A → Bool) (xs : List A) → eqb (number_of (refusal (from + first_failing test xs))) 10 ≡ false
    → NotTen (place_verdict refusal from test xs)
not_place refusal from test xs no-ten = not_if (ltb (first_failing test xs) (length xs)) (refusal (from + first_failing test xs)) no-ten

pub early_is_not_ten : (s : System) (c : Constraints) (layout energies leaving : ℕ) → NotTen (early_verdict s c layout energies leaving)
early_is_not_ten s c layout energies leaving =
    let g = s.strand_glues in
    let d = s.delta_g in
    let x = s.entropy in
    let below : ℕ → Bool = λ t. ltb t s.sizes.glues in
    let fits = eqb layout (bays s.sizes) && offsets_shaped (bays s.sizes) c in
    let seed = first_bad_seed s.sizes s.seeds in
    let bay = first_empty s.sizes.rows s.sizes.cols (sets_of s c) 0 (bays s.sizes) in
    let need = run_need s c in
    not_then
    (not_then
    (not_then (not_if (not (sizes_fit s.sizes && lengths_fit s)) Size refl)
    (not_then (not_then (not_place Glue 0 below g refl) (not_place Glue (length g) below s.scaffold refl))
    (not_then (not_then (not_place Energy 0 finite d refl) (not_then (not_place Energy (length d) finite x refl) (not_place Energy (length d + length x + 1) is_log (drop 1 s.logs) refl)))
    (not_if (ltb seed (length s.seeds / 3)) (Seed seed) refl))))
    (not_if (not fits) Shape refl))
    (not_then (not_if (ltb bay (bays s.sizes)) (NoLegalStrand (bay_at s.sizes.rows s.sizes.cols bay)) refl)
    (not_then (not_if (ltb most_rows need) TooManyRows refl) (not_if (ltb energies need || ltb leaving need) (NoRoom need) refl)))
