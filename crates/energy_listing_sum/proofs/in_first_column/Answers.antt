-- `energy_listing_sum::in_first_column` meets its contract: what is left of a bay's number over no columns is the number. Assumes nothing.
use Prim.Native.Nat.{ℕ, ◌%◌}
use mathlib.Core.Path.{◌≡◌, sym, ap}
use native.Mathlib.Nat.{div-add-mod'}
use native.Mathlib.Omega.{arith}
use lib.Dec.{eqb}
use Rattle.energy_listing_sum.proofs.in_first_column.Goals as goal

no_columns : (bay cols : ℕ) → cols ≡ 0 → bay % cols ≡ bay
no_columns bay cols e = rw e (omega (arith, div-add-mod' bay 0))

pub returns-then-cols-eq0 : goal.returns-then-cols-eq0
returns-then-cols-eq0 c = let a = c.args in sym (ap (λ n. eqb n 0) (no_columns a.bay a.cols c.if-cols-eq0.true))

pub nonzero_rem-result : goal.nonzero_rem-result
nonzero_rem-result c = omega (arith, c.if-cols-eq0.false)
