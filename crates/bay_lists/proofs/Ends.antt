-- Lists that have their shape: a list begins where the one before it ends and none passes the tiles. Assumes nothing.
use Prim.Native.Nat.{ℕ, ◌+◌, ◌≤◌, ◌<◌}
use mathlib.Core.Path.{◌≡◌}
use mathlib.Core.Bool.{true, ◌&&◌}
use mathlib.Core.List.{List}
use native.Mathlib.Omega.{arith}
use lib.Dec.{eqb}
use lib.ListN.{length, get_or}
use borrow.Author.Tests.{eqb-true}
use Rattle.units.proofs.Tests.{and_left, and_right}
use Rattle.text_entries.specs.Entries.{offsets_fit}
use Rattle.text_entries.proofs.Bounds.{entry_starts, offset_within}
use Rattle.bay_lists.specs.Lists.{lists, offsets_shaped}

-- where the shape is right there is an offset more than bays, and they rise and stay within the tiles
pub record ListShape (bays : ℕ) (offsets tiles : List ℕ) : Type 0 where
  pub count : length offsets ≡ bays + 1
  pub fit : offsets_fit (length tiles) offsets ≡ true

pub list_shape : (bays : ℕ) (offsets tiles : List ℕ) → offsets_shaped bays (lists offsets tiles) ≡ true → ListShape bays offsets tiles
list_shape bays offsets tiles e =
    let a = eqb (length offsets) (bays + 1) in
    let b = eqb (get_or offsets 0 0) 0 in
    let c = offsets_fit (length tiles) offsets in
    let d = eqb (get_or offsets bays 0) (length tiles) in
    record {
      count = eqb-true (length offsets) (bays + 1) (and_left a (b && (c && d)) e);
      fit = and_left c d (and_right b (c && d) (and_right a (b && (c && d)) e));
    }

-- the two ends of a bay's list
pub ends : (bays : ℕ) (offsets tiles : List ℕ) (bay : ℕ) → offsets_shaped bays (lists offsets tiles) ≡ true → bay < bays
    → (get_or offsets bay 0 ≤ get_or offsets (bay + 1) 0) × (get_or offsets (bay + 1) 0 ≤ length tiles)
ends bays offsets tiles bay e h =
    let shape = list_shape bays offsets tiles e in
    let small : bay + 1 < length offsets = omega (arith, shape.count, h) in
    (entry_starts (length tiles) offsets bay shape.fit small, offset_within (length tiles) offsets (bay + 1) shape.fit small)
