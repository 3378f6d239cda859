-- The search, in scan order, for the first bay without a legal strand. Assumes nothing.
use Prim.Native.Nat.{ℕ, suc, ◌+◌, ◌-◌, ◌≤◌, ◌<◌}
use mathlib.Core.Path.{◌≡◌}
use mathlib.Core.List.{List}
use native.Mathlib.Numerals.{add-one}
use native.Mathlib.Omega.{arith}
use lib.ListN.{get_or}
use borrow.Author.Tests.{eq-eqb, ne_eqb}
use Rattle.bay_scan_order.specs.Scan.{bay_at}
use Rattle.bay_legal.specs.Sets.{first_empty}

module _ (rows cols : ℕ) (sets : List ℕ) (n i : ℕ) where
  one_left : i < n → n - i ≡ suc (n - (i + 1))
  one_left h = omega arith

  -- the bay scanned as number i is without a strand, or has one
  pub found_here : i < n → get_or sets (bay_at rows cols i) 0 ≡ 0 → first_empty rows cols sets i (n - i) ≡ i
  unfolding first_empty
  found_here h e = rw (one_left h, eq-eqb _ _ e)

  pub one_on : i < n → (get_or sets (bay_at rows cols i) 0 ≡ 0 → ⊥) → first_empty rows cols sets i (n - i) ≡ first_empty rows cols sets (i + 1) (n - (i + 1))
  unfolding first_empty
  one_on h e = rw (one_left h, ne_eqb _ _ e, add-one i)

  pub none_left : n ≤ i → first_empty rows cols sets i (n - i) ≡ i
  unfolding first_empty
  none_left h = let none : n - i ≡ 0 = omega arith in rw none
