-- The scan goes through every bay of the grid, and through no other. Assumes nothing.
use Prim.Native.Nat.{ℕ, zero, suc, ◌+◌, ◌*◌, ◌/◌, ◌%◌, ◌<◌}
use mathlib.Core.Path.{◌≡◌, refl, ◌∙◌, ap₂, subst}
use mathlib.Core.Bool.{Bool, true, false, cond}
use native.Mathlib.Nat.{mod-lt, div-lt_iff_lt-mul, mul_comm, div-add-mod'}
use native.Mathlib.Omega.{arith}
use lib.Arith.{digits_lt, digits_div, digits_mod}
use lib.Dec.{leb}
use Rattle.bay_scan_order.specs.Scan.{bay_at, number_at}

-- a grid with a bay has a row and a column
pub some_row : (rows cols k : ℕ) → k < rows * cols → 0 < rows
some_row zero cols k h = omega arith
some_row (suc rows) cols k h = omega arith

pub some_col : (rows cols k : ℕ) → k < rows * cols → 0 < cols
some_col rows cols k h = some_row cols rows k (subst (λ (n : ℕ). k < n) (mul_comm rows cols) h)

-- the column of the bay that is scanned as number k, where the scan goes by columns
pub column : (rows cols k : ℕ) → k < rows * cols → k / rows < cols
column rows cols k h = (div-lt_iff_lt-mul (some_row rows cols k h)).1 (subst (λ (n : ℕ). k < n) (mul_comm rows cols) h)

-- the row of a bay
pub row_of : (rows cols bay : ℕ) → bay < rows * cols → bay / cols < rows
row_of rows cols bay h = (div-lt_iff_lt-mul (some_col rows cols bay h)).1 h

pub bay_inside : (rows cols k : ℕ) → k < rows * cols → bay_at rows cols k < rows * cols
bay_inside rows cols k h = either (leb cols rows)
  where
    either : (b : Bool) → cond b k (k % rows * cols + k / rows) < rows * cols
    either true = h
    either false = digits_lt (mod-lt k (some_row rows cols k h)) (column rows cols k h)

-- the number of a bay in the scan, and the bay again
pub number_inside : (rows cols bay : ℕ) → bay < rows * cols → number_at rows cols bay < rows * cols
number_inside rows cols bay h = either (leb cols rows)
  where
    either : (b : Bool) → cond b bay (bay % cols * rows + bay / cols) < rows * cols
    either true = h
    either false =
        subst (λ (n : ℕ). bay % cols * rows + bay / cols < n) (mul_comm cols rows)
        (digits_lt (mod-lt bay (some_col rows cols bay h)) (row_of rows cols bay h))

pub scanned : (rows cols bay : ℕ) → bay < rows * cols → bay_at rows cols (number_at rows cols bay) ≡ bay
scanned rows cols bay h = either (leb cols rows)
  where
    row : bay / cols < rows
    row = row_of rows cols bay h

    either : (b : Bool) → cond b (cond b bay (bay % cols * rows + bay / cols)) (cond b bay (bay % cols * rows + bay / cols) % rows * cols + cond b bay (bay % cols * rows + bay / cols) / rows) ≡ bay
    either true = refl
    either false =
        ap₂ (λ (r c : ℕ). r * cols + c) (digits_mod (bay % cols) row) (digits_div (bay % cols) row) ∙ div-add-mod' bay cols

-- and the other way round
pub numbered : (rows cols k : ℕ) → k < rows * cols → number_at rows cols (bay_at rows cols k) ≡ k
numbered rows cols k h = either (leb cols rows)
  where
    line : k / rows < cols
    line = column rows cols k h

    either : (b : Bool) → cond b (cond b k (k % rows * cols + k / rows)) (cond b k (k % rows * cols + k / rows) % cols * rows + cond b k (k % rows * cols + k / rows) / cols) ≡ k
    either true = refl
    either false = ap₂ (λ (r c : ℕ). r * rows + c) (digits_mod (k % rows) line) (digits_div (k % rows) line) ∙ div-add-mod' k rows
