-- From the tests and the sum to the answer. Assumes nothing.
use Prim.Native.Nat.{ℕ}
use mathlib.Core.Path.{◌≡◌, sym, ◌∙◌, ap}
use mathlib.Core.List.{List}
use lib.Ieee.{Float}
use lib.ListN.{length}
use Rattle.std.specs.Prelude.{Result}
use Rattle.units.specs.declared.refusal.Refusal.{Refusal}
use Rattle.units.specs.Refusals.{Verdict, passes, ◌▷◌, answer}
use Rattle.bay_system.specs.System.{System}
use Rattle.energy_listing_sum.specs.Listing.{listing, listing_sum}
use Rattle.energy_state.specs.StateG.{energy_verdict, layout_verdict, in_kcal, state_g}
use Rattle.energy_state.proofs.Passed.{each_bay}

module _ (s : System) (layout : List ℕ) where
  -- what a sum over all bays is answered as, once the tests have passed
  pub answered_so : {sum : Float} {r : Result Float Refusal} → layout_verdict s layout ≡ passes
      → sum ≡ listing s layout (length layout)
      → r ≡ answer (energy_verdict sum) (in_kcal sum s.sizes.kelvin) → r ≡ state_g s layout
  answered_so passed total made =
      let kelvin = s.sizes.kelvin in
      let sum_is_lem = total ∙ ap (listing s layout) (each_bay s layout passed) in
      made
      ∙ ap (λ (x : Float). answer (energy_verdict x) (in_kcal x kelvin)) sum_is_lem
      ∙ sym (ap (λ (v : Verdict). answer (v ▷ energy_verdict (listing_sum s layout)) (in_kcal (listing_sum s layout) kelvin)) passed)
