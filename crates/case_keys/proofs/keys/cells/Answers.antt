-- `case_keys::keys::cells` fits: the side is not past 257. Assumes nothing.
use native.Mathlib.Omega.{arith}
use native.Mathlib.Nat.{mul-le-mul}
use Rattle.case_keys.proofs.keys.cells.Goals as goal

pub overflow_mul-result : goal.overflow_mul-result
overflow_mul-result c = record { fits = omega (arith, mul-le-mul c.at_most-most.ensures c.at_most-most.ensures) }
