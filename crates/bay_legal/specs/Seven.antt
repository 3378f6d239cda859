-- Refusal 7 in the rules' words, over whatever says which strand is legal at which bay, as long as no strand from 64 on is. Assumes nothing.
use Rattle.std.specs.Prelude.{ℕ, ◌<◌, ◌≡◌, Bool, true, false, ◌↔◌}
use Rattle.units.specs.declared.refusal.Refusal.TheVariants.{NoLegalStrand}
use Rattle.units.specs.Refusals.{Verdict, passes, refuses}
use Rattle.bay_system.specs.declared.sizes.Sizes.{Sizes}
use Rattle.bay_scan_order.specs.Scan.{number_at}
use Rattle.bay_legal.specs.Sets.{bays, sets_to, empty_verdict}

-- some strand is legal at the bay
abbrev pub SomeStrand : (legal : ℕ → ℕ → Bool) → (bay : ℕ) → Type 0
SomeStrand legal bay = (strand : ℕ) × (legal bay strand ≡ true)

-- the first bay in scan order without a legal strand: no strand is legal there, and every bay that is scanned before it has one
pub record FirstWithoutStrand (z : Sizes) (legal : ℕ → ℕ → Bool) (bay : ℕ) : Type 0 where
  pub inside : bay < bays z
  pub none_legal : (strand : ℕ) → legal bay strand ≡ false
  pub some_before : (other : ℕ) → other < bays z → number_at z.rows z.cols other < number_at z.rows z.cols bay → SomeStrand legal other

-- what the test for 7 comes to on the sets of all bays
abbrev pub seven_verdict : Sizes → (legal : ℕ → ℕ → Bool) → Verdict
seven_verdict z legal = empty_verdict z.rows z.cols (sets_to legal (bays z))

-- 7 comes with a bay exactly where that is the first one in scan order without a legal strand; none comes exactly where every bay has one
pub record SevenTheorem (z : Sizes) (legal : ℕ → ℕ → Bool) : Type 0 where
  pub refused : (bay : ℕ) → (seven_verdict z legal ≡ refuses (NoLegalStrand bay)) ↔ FirstWithoutStrand z legal bay
  pub passed : (seven_verdict z legal ≡ passes) ↔ ((bay : ℕ) → bay < bays z → SomeStrand legal bay)
