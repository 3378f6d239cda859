-- From the links of a chain of tests to what a call answers and leaves in the slice lent to it. Assumes nothing.
use Prim.Native.Nat.{ℕ}
use mathlib.Core.Path.{◌≡◌, sym, ◌∙◌, ap, subst}
use mathlib.Core.List.{List}
use Rattle.units.specs.declared.refusal.Refusal.{Refusal}
use Rattle.units.specs.Refusals.{Verdict, passes, refuses, ◌▷◌, if_passes}
use Rattle.units.proofs.Verdicts.{refused_keeps}
use Rattle.bay_given.specs.Filling.{Fills}

-- a test that refused, or passed, in front of others
refused_first : (v w : Verdict) {r : Refusal} → v ≡ refuses r → refuses r ≡ v ▷ w
refused_first v w e = rw e

passed_first : (v w : Verdict) → v ≡ passes → v ▷ w ≡ w
passed_first v w e = rw e

module _ (new old : List ℕ) where
  -- a test refused that was not the last
  pub refused_here : (v w : Verdict) {x : Verdict} {r : Refusal} → x ≡ v → x ≡ refuses r → Fills (v ▷ w) new old (refuses r) old
  refused_here v w e f = let all = refused_first v w (sym e ∙ f) in record { answer = all; holds = refused_keeps (v ▷ w) new old (sym all) }

  -- the last one refused
  pub refused_last : (v : Verdict) {x : Verdict} {r : Refusal} → x ≡ v → x ≡ refuses r → Fills v new old (refuses r) old
  refused_last v e f = record { answer = sym f ∙ e; holds = refused_keeps v new old (sym e ∙ f) }

  -- the last one passed, and the slice was filled
  pub passed_last : (v : Verdict) {x : Verdict} {left : List ℕ} → x ≡ v → x ≡ passes → left ≡ new → Fills v new old passes left
  passed_last v e f made = record { answer = sym f ∙ e; holds = made ∙ ap (λ (u : Verdict). if_passes u new old) (sym (sym e ∙ f)) }

  -- a test passed in front of what is known of the others
  pub passed_here : (v w : Verdict) {x r : Verdict} {left : List ℕ} → x ≡ v → x ≡ passes → Fills w new old r left → Fills (v ▷ w) new old r left
  passed_here v w {r = r} {left = left} e f = subst (λ (u : Verdict). Fills u new old r left) (sym (passed_first v w (sym e ∙ f)))
