-- What says that a place behind was written is put like any text, where the place that it is put at lies in the slice. Assumes nothing.
use Prim.Native.Nat.{ℕ, ◌-◌, ◌≤◌, min}
use mathlib.Core.Bool.{Bool, true, false, cond}
use mathlib.Core.List.{List, []}
use mathlib.Core.Path.{◌≡◌, ◌∙◌}
use native.Mathlib.Omega.{arith}
use lib.ListN.{length}
use lib.Seq.{paste-zero}
use Rattle.text_put.specs.Puts.{Put, written, place_after}
use Rattle.case_lent.specs.Kept.{rest_text}

pub rest_put : {old : List ℕ} {at : ℕ} (kept : Bool) {r : ℕ} {out : List ℕ} → at ≤ length old
    → r ≡ cond kept at (place_after old at rest_text) → out ≡ cond kept old (written old at rest_text) → Put old at (cond kept [] rest_text) r out
unfolding written
rest_put {old} {at} true h p s =
    let none : min 0 (length old - at) ≡ 0 = omega arith in
    record { place = p ∙ omega arith; slice = s ∙ rw none (paste-zero old at []) }
rest_put false h p s = record { place = p; slice = s }
