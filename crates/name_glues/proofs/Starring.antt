-- Refusal 16 in words. Assumes nothing.
use Prim.Native.Nat.{ℕ, ◌+◌, ◌≤◌, ◌<◌}
use mathlib.Core.Path.{◌≡◌}
use borrow.Author.Tests.{lt-ltb, le-ltb}
use Rattle.std.specs.Prelude.{Ok, Err}
use Rattle.units.specs.declared.refusal.Refusal.TheVariants.{Starred}
use Rattle.text_entries.proofs.InOrder.{First, first}
use Rattle.name_glues.specs.Names.{GlueNames}
use Rattle.name_glues.specs.Starred.{is_starred, first_starred, stars_verdict}

-- the bay's name is starred, and no name of a bay before it is
pub first_bay_lem : (n : GlueNames) (from bays : ℕ) → First (λ bay. is_starred n (from + bay)) 0 bays (first_starred n from bays)
first_bay_lem n from bays = first (λ bay. is_starred n (from + bay)) 0 bays

module _ (n : GlueNames) (from bays : ℕ) where
  -- what is refused where the search stopped at a bay, or past all
  pub bay_starred : {bay : ℕ} → first_starred n from bays ≡ bay → bay < bays → Err (Starred bay) ≡ stars_verdict n from bays
  bay_starred {bay} e h = rw (e, lt-ltb bay bays h)

  pub none_starred : {bay : ℕ} → first_starred n from bays ≡ bay → bays ≤ bay → Ok tt ≡ stars_verdict n from bays
  none_starred {bay} e h = rw (e, le-ltb bay bays h)
