-- How a chain of tests is followed. Assumes nothing.
use mathlib.Core.Path.{◌≡◌, refl}
use mathlib.Core.Bool.{Bool, true, false}
use Rattle.std.specs.Prelude.{Ok, Err}
use Rattle.units.specs.declared.refusal.Refusal.{Refusal}
use Rattle.units.specs.Refusals.{Verdict, passes, refuse_if, ◌▷◌, if_passes}

-- a test that passed has found no fault
pub no_fault : (b : Bool) (r : Refusal) → refuse_if b r ≡ passes → b ≡ false
no_fault true r e = cc
no_fault false r e = refl

-- where a chain passes, so does each of its tests
pub first_passes : (v w : Verdict) → v ▷ w ≡ passes → v ≡ passes
first_passes (Ok tt) w e = refl
first_passes (Err r) w e = e

pub rest_passes : (v w : Verdict) → v ▷ w ≡ passes → w ≡ passes
rest_passes (Ok tt) w e = e
rest_passes (Err r) w e = cc

-- where the tests refused, what was there stays
pub refused_keeps : {A : Type 0} {r : Refusal} (v : Verdict) (new old : A) → v ≡ Err r → old ≡ if_passes v new old
refused_keeps (Ok tt) new old e = cc
refused_keeps (Err r) new old e = refl
