-- THE THEOREM of the price: where the call answers an energy, its layout has the strand on the bay, and no such layout has a smaller scan sum. Assumes nothing.
use Prim.Native.Nat.{ℕ, ◌<◌}
use mathlib.Core.Path.{◌≡◌, refl, sym, ◌∙◌, ap, subst}
use mathlib.Core.Bool.{Bool, true, ◌&&◌}
use mathlib.Core.List.{List}
use native.Mathlib.Decide.{ℕ_discrete}
use lib.Dec.{eqb}
use lib.Ieee.{Float, le}
use lib.ListN.{length, get_or}
use borrow.Author.Tests.{eqb-true, eq-eqb}
use Rattle.std.specs.Prelude.{Ok, Err}
use Rattle.units.specs.Refusals.{Verdict, passes, ◌▷◌, if_passes, answer}
use Rattle.units.proofs.Verdicts.{no_fault, first_passes, rest_passes}
use Rattle.units.proofs.Tests.{both}
use Rattle.bay_system.specs.System.{System, bays}
use Rattle.bay_lists.specs.Lists.{Constraints, absent}
use Rattle.bay_legal_at.specs.Legal.{is_legal}
use Rattle.bay_legal.specs.Sets.{empty_verdict}
use Rattle.bay_given.proofs.Passed.{is_fine}
use Rattle.energy_bays.specs.Energies.{is_bad}
use Rattle.energy_state.specs.StateG.{in_kcal}
use Rattle.run_room.specs.Room.{room_verdict}
use Rattle.run_least_layout.specs.Run.{need_by, least_sum_by, least_layout_by}
use Rattle.bay_legal_at.specs.Layouts.{LayoutBy}
use Rattle.energy_bays.specs.ScanSum.{scan_sum_of}
use Rattle.run_least_layout.proofs.Passed.{least_by}
use Rattle.run_mfe.specs.RunBy.{early_by, sum_by}
use Rattle.run_choice_price.specs.Choice.{chosen_legal, chosen_sets}
use Rattle.run_choice_price.specs.Price.{choice_verdict, price_verdict, price_answer, price_layout}
use Rattle.run_choice_price.specs.Chosen.{ChosenLayout, PriceTheorem}
use Rattle.run_choice_price.proofs.Choices.{given_passes, inside}
use Rattle.run_choice_price.proofs.ChosenSets.{there, elsewhere, chosen_below}

-- a layout may lie there under the choice exactly where it is one of the choice's
module _ (s : System) (c : Constraints) (bay strand : ℕ) (on : bay < bays s.sizes) where
  abbrev free : ℕ → Bool
  free t = is_legal s absent bay t

  chosen_of_legal : (l : List ℕ) → LayoutBy s (chosen_legal s c bay strand) l → ChosenLayout s c bay strand l
  chosen_of_legal l legal =
      let t = get_or l bay 0 in
      let two = both (free t) (eqb t strand) (sym (there s c bay strand t) ∙ legal.each bay on) in
      let same : t ≡ strand = eqb-true t strand two.1 in
      record {
        long = legal.long;
        has = same;
        there = ap free (sym same) ∙ two.0;
        elsewhere = λ b h n. sym (elsewhere s c bay strand b n (get_or l b 0)) ∙ legal.each b h;
      }

  legal_of_chosen : (l : List ℕ) → ChosenLayout s c bay strand l → LayoutBy s (chosen_legal s c bay strand) l
  legal_of_chosen l k = record { long = k.long; each = λ b h. each b h (ℕ_discrete b bay) }
    where
      t : ℕ
      t = get_or l bay 0

      alike : (a b : Bool) → a ≡ true → b ≡ true → (a && b) ≡ true
      alike a b e f = ap (λ (x : Bool). x && b) e ∙ f

      own : chosen_legal s c bay strand bay t ≡ true
      own = there s c bay strand t ∙ alike (free t) (eqb t strand) (ap free k.has ∙ k.there) (eq-eqb t strand k.has)

      each : (b : ℕ) → b < bays s.sizes → Dec (b ≡ bay) → chosen_legal s c bay strand b (get_or l b 0) ≡ true
      each b h (yes e) = subst (λ (j : ℕ). chosen_legal s c bay strand j (get_or l j 0) ≡ true) (sym e) own
      each b h (no n) = elsewhere s c bay strand b n (get_or l b 0) ∙ k.elsewhere b h n

-- an energy is answered only where every test passed
answered : (v : Verdict) (value energy : Float) → answer v value ≡ Ok energy → (v ≡ passes) × (energy ≡ value)
answered (Ok tt) value energy e = (refl, cc)
answered (Err r) value energy e = cc

module _ (s : System) (c : Constraints) (bay strand energies notes : ℕ) (old : List ℕ) (energy : Float) where
  abbrev may : ℕ → ℕ → Bool
  may = chosen_legal s c bay strand

  abbrev choice : Verdict
  choice = choice_verdict s (length old) c bay

  abbrev empty : Verdict
  empty = empty_verdict s.sizes.rows s.sizes.cols (chosen_sets s c bay strand)

  abbrev room : Verdict
  room = room_verdict (need_by s may) energies notes

  abbrev first : Verdict
  first = early_by choice s may energies notes

  pub the_price_is_right : price_answer s c bay strand (length old) energies notes ≡ Ok energy
      → PriceTheorem s c bay strand energy (price_layout s c bay strand energies notes old)
  the_price_is_right e =
      let a = answered (price_verdict s c bay strand (length old) energies notes) (in_kcal (least_sum_by s may) s.sizes.kelvin) energy e in
      let early = first_passes first (sum_by s may) a.0 in
      let good = no_fault (is_bad (least_sum_by s may)) _ (rest_passes first (sum_by s may) a.0) in
      let chosen = first_passes choice (empty ▷ room) early in
      let on = inside s (length old) c bay chosen in
      let none_empty = first_passes empty room (rest_passes choice (empty ▷ room) early) in
      let least = least_by s may (chosen_below s c bay strand) (is_fine s (length old) c (given_passes s (length old) c bay chosen)) none_empty in
      let laid : price_layout s c bay strand energies notes old ≡ least_layout_by s may = ap (λ (v : Verdict). if_passes v (least_layout_by s may) old) a.0 in
      subst (λ (l : List ℕ). PriceTheorem s c bay strand energy l) (sym laid)
      (record {
        laid = chosen_of_legal s c bay strand on (least_layout_by s may) least.legal;
        energy_is = a.1 ∙ ap (λ (x : Float). in_kcal x s.sizes.kelvin) (sym least.sum);
        no_smaller = λ other k.
            subst (λ (x : Float). le x (scan_sum_of s other) ≡ true) (sym least.sum) (least.no_smaller good other (legal_of_chosen s c bay strand on other k));
      })
