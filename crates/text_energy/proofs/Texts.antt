-- The text of an energy by its hundredths. Assumes nothing.
use mathlib.Core.Path.{◌≡◌, refl, ap}
use mathlib.Core.Bool.{Bool, true, false, cond, ◌&&◌}
use mathlib.Core.List.{[], ◌∷◌, ◌++◌}
use lib.Dec.{ltb}
use lib.Ieee.{Float, nan, inf, fin, is_nan}
use Rattle.std.proofs.Common.{Some, None}
use Rattle.text_put.specs.Puts.{float_text}
use Rattle.text_energy.specs.Hundredths.{hundredths, is_small, is_negative, nearest_hundredth, pointed, energy_text}
use Rattle.text_energy.specs.declared.Hundredths.{Hundredths}

pub nan_has_none : (x : Float) → is_nan x ≡ true → None ≡ nearest_hundredth x
unfolding nearest_hundredth is_small is_nan
nan_has_none nan e = refl
nan_has_none (inf s) e = absurd (cc)
nan_has_none (fin s m n) e = absurd (cc)

-- an energy has hundredths where it is small, and they are these
module _ (x : Float) where
  abbrev all : Hundredths
  all = record { negative = is_negative x; count = hundredths x }

  some_is : (b : Bool) (h : Hundredths) → cond b (Some all) None ≡ Some h → (b ≡ true) × (all ≡ h)
  some_is true h e = (refl, cc)
  some_is false h e = absurd (cc)

  none_is : (b : Bool) → cond b (Some all) None ≡ None → b ≡ false
  none_is true e = absurd (cc)
  none_is false e = refl

  pub without_hundredths : nearest_hundredth x ≡ None → float_text x ≡ energy_text x
  unfolding nearest_hundredth energy_text
  without_hundredths e = rw (none_is (is_small x) e)

  module _ (h : Hundredths) (e : nearest_hundredth x ≡ Some h) where
    pub with_a_minus : (h.negative && ltb 0 h.count) ≡ true → (45 ∷ []) ++ pointed h.count ≡ energy_text x
    unfolding nearest_hundredth energy_text
    with_a_minus m = let s = some_is (is_small x) h e in rw (s.0, ap (λ (y : Hundredths). y.negative) s.1, ap (λ (y : Hundredths). y.count) s.1, m)

    pub without_a_minus : (h.negative && ltb 0 h.count) ≡ false → pointed h.count ≡ energy_text x
    unfolding nearest_hundredth energy_text
    without_a_minus m = let s = some_is (is_small x) h e in rw (s.0, ap (λ (y : Hundredths). y.negative) s.1, ap (λ (y : Hundredths). y.count) s.1, m)
