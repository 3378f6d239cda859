-- Laws of the first fields of a text: how many numbers they have. Assumes nothing.
use Prim.Native.Nat.{ℕ, zero, suc, ◌+◌, ◌≤◌, zero-le}
use mathlib.Core.Bool.{Bool, true, false, ◌&&◌}
use mathlib.Core.List.{List}
use mathlib.Core.Path.{◌≡◌, refl}
use native.Mathlib.Nat.{zero-add, suc-add}
use native.Mathlib.Omega.{arith}
use lib.ListN.{length, length-append}
use Rattle.units.proofs.Tests.{and_left, and_right}
use Rattle.sheet_fields.specs.Fields.{content, after}
use Rattle.sheet_fields.specs.Runs.{past, bytes_in}
use Rattle.sheet_number_lists.specs.NumberLists.{list_in}
use Rattle.sheet_cells.specs.Cells.{is_cell, cells, all_tiles}
use Rattle.sheet_cells.specs.Checks.{count_in, are_cells}
use Rattle.sheet_cells.proofs.Quotes.{cell_length}

pub count_none : (t : List ℕ) → count_in 0 t ≡ 0
unfolding count_in cells all_tiles
count_none t = refl

pub count_suc : (k : ℕ) (t : List ℕ) → count_in (suc k) t ≡ length (list_in (content t)) + count_in k (after t)
unfolding count_in cells all_tiles
count_suc k t = length-append (list_in (content t)) (all_tiles (cells k (after t)))

pub count_add : (m n : ℕ) (t : List ℕ) → count_in (m + n) t ≡ count_in m t + count_in n (past m t)
unfolding past
count_add zero n t = rw (zero-add n, count_none t) (omega arith)
count_add (suc m) n t =
    let more = count_add m n (after t) in
    rw (suc-add m n, count_suc (m + n) t, count_suc m t) (omega arith)

pub cells_add : (m n : ℕ) (t : List ℕ) → are_cells (m + n) t ≡ are_cells m t && are_cells n (past m t)
unfolding are_cells past
cells_add zero n t = rw (zero-add n)
cells_add (suc m) n t = rw (suc-add m n, cells_add m n (after t)) (go (is_cell t))
  where
    go : (p : Bool) → p && (are_cells m (after t) && are_cells n (past m (after t))) ≡ (p && are_cells m (after t)) && are_cells n (past m (after t))
    go true = refl
    go false = refl

-- every number takes a byte
pub count_within : (k : ℕ) (t : List ℕ) → are_cells k t ≡ true → count_in k t ≤ bytes_in k t
unfolding bytes_in are_cells
count_within zero t e = rw (count_none t) zero-le
count_within (suc k) t e =
    let here = cell_length t (and_left (is_cell t) (are_cells k (after t)) e) in
    let more = count_within k (after t) (and_right (is_cell t) (are_cells k (after t)) e) in
    rw (count_suc k t) (omega arith)
