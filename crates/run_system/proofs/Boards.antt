-- Counts on a board. Assumes nothing.
use Prim.Native.Nat.{ℕ, ◌*◌, ◌≤◌}
use mathlib.Core.Path.{◌≡◌}
use native.Mathlib.Nat.{mul-le-mul}
use native.Mathlib.Omega.{arith}
use Rattle.units.specs.Limits.{most_side}
use Rattle.run_system.specs.Steps.{OnBoard}

pub few_bays : {rows cols scan lent : ℕ} → OnBoard rows cols scan lent → scan ≤ most_side * most_side
few_bays on = omega (arith, on.scanned, mul-le-mul on.few_rows on.few_cols)

-- the board of another count that is the same
pub front_board : {rows cols scan lent n : ℕ} → OnBoard rows cols scan lent → n ≡ rows * cols → OnBoard rows cols n lent
front_board on e = record { some_rows = on.some_rows; few_rows = on.few_rows; some_cols = on.some_cols; few_cols = on.few_cols; scanned = e; laid = on.laid }
