-- What depends on the strands alone: two scans that differ in their added numbers have the same sizes, the same leavers and the same need. Assumes nothing.
use mathlib.Core.Path.{◌≡◌, refl, ap, ap₂}
use Prim.Native.Nat.{ℕ, zero, suc, ◌+◌, ◌*◌}
use lib.Ieee.{Float}
use lib.ListN.{length}
use Rattle.ledger_rows.specs.Scan.{Scan}
use Rattle.ledger_rows.specs.Blocks.{size, leavers, need}

module _ (z : Scan) (added' : (k s u t : ℕ) → Float) where
  -- the scan with the other numbers
  abbrev pub with_added : Scan
  with_added = record { kept = z.kept; strands = z.strands; added = added' }

  pub size_same : (k j : ℕ) → size z k j ≡ size with_added k j
  unfolding size
  size_same zero j = refl
  size_same (suc k) zero = refl
  size_same (suc k) (suc j) = ap (λ w. w * length (z.strands k)) (size_same k j)

  pub leavers_same : (j k : ℕ) → leavers z j k ≡ leavers with_added j k
  unfolding leavers
  leavers_same j zero = refl
  leavers_same zero (suc k) = refl
  leavers_same (suc j) (suc k) = leavers_same j k

  pub need_same : (k : ℕ) → need z k ≡ need with_added k
  unfolding need
  need_same zero = refl
  need_same (suc k) = ap₂ (λ a b. a + b) (need_same k) (size_same (suc k) (suc z.kept))
