-- `bay_scan_order::number_at` meets its contract. Assumes nothing.
use Prim.Native.Nat.{◌%◌, ◌≤◌}
use native.Mathlib.Nat.{mod-lt, mul-le-mul}
use native.Mathlib.Omega.{arith}
use borrow.Author.Tests.{le-leb, lt-leb}
use Rattle.units.specs.Limits.{most_side}
use Rattle.bay_scan_order.proofs.Scanned.{some_col, row_of}
use Rattle.bay_scan_order.proofs.number_at.Goals as goal

pub returns-then-cols-rows : goal.returns-then-cols-rows
returns-then-cols-rows c = rw (le-leb _ _ c.if-cols-rows.true)

pub nonzero_rem-result : goal.nonzero_rem-result
nonzero_rem-result c = (some_col c.args.rows c.args.cols c.args.bay c.requires.2)

pub overflow_mul-result : goal.overflow_mul-result
overflow_mul-result c = omega (
  arith,
  (let col : c.args.bay % c.args.cols ≤ most_side = omega (arith, mod-lt c.args.bay ((some_col c.args.rows c.args.cols c.args.bay c.requires.2)), c.requires.1) in
      mul-le-mul col c.requires.0),
)

pub nonzero_div-result : goal.nonzero_div-result
nonzero_div-result c = (some_col c.args.rows c.args.cols c.args.bay c.requires.2)

pub overflow_add-result : goal.overflow_add-result
overflow_add-result c = omega (
  arith,
  (let col : c.args.bay % c.args.cols ≤ most_side = omega (arith, mod-lt c.args.bay ((some_col c.args.rows c.args.cols c.args.bay c.requires.2)), c.requires.1) in
      mul-le-mul col c.requires.0),
  row_of c.args.rows c.args.cols c.args.bay c.requires.2,
  c.requires.0,
)

pub returns : goal.returns
returns c = rw (lt-leb _ _ c.if-cols-rows.false)
