-- How the listing sum goes on by one bay: what the code adds is what the definition adds. Assumes nothing.
use Prim.Native.Nat.{ℕ, zero, suc, ◌+◌, ◌%◌, ◌≤◌}
use mathlib.Core.Path.{◌≡◌, refl}
use mathlib.Core.Bool.{false}
use mathlib.Core.List.{List}
use native.Mathlib.Nat.{zero-mod}
use native.Mathlib.Numerals.{add-one}
use native.Mathlib.Omega.{arith}
use lib.Dec.{eqb}
use lib.Ieee.{Float, binary64, add}
use borrow.Author.Tests.{eqb-false}
use Rattle.bay_system.specs.System.{System}
use Rattle.energy_bays.specs.Energies.{nothing, bay_energy}
use Rattle.energy_listing_sum.specs.Listing.{strand_at, with_west, with_north, listing}

-- a bay past the first column is not bay 0
pub past_first : (bay cols : ℕ) → eqb (bay % cols) 0 ≡ false → 1 ≤ bay
past_first zero cols h = absurd (eqb-false (0 % cols) 0 h (zero-mod cols))
past_first (suc bay) cols h = omega arith

module _ (s : System) (layout : List ℕ) where
  pub from_nothing : nothing ≡ listing s layout 0
  unfolding listing
  from_nothing = refl

  pub one_bay_more : (bay : ℕ) {sum site west north : Float} {strand : ℕ}
      → sum ≡ listing s layout bay → strand ≡ strand_at layout bay
      → site ≡ bay_energy s bay strand
      → west ≡ with_west s layout bay (add binary64 sum site) → north ≡ with_north s layout bay west
      → north ≡ listing s layout (bay + 1)
  unfolding listing
  one_bay_more bay e t b w n = rw (add-one bay, n, w, b, t, e)
