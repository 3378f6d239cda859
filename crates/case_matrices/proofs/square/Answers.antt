-- `case_matrices::square` stays within a number. Assumes nothing.
use native.Mathlib.Nat.{mul-le-mul}
use native.Mathlib.Omega.{arith}
use Rattle.case_matrices.proofs.square.Goals as goal

pub overflow_mul-result : goal.overflow_mul-result
overflow_mul-result c = omega (arith, mul-le-mul c.at_most-g.ensures c.at_most-g.ensures)

pub returns : goal.returns
returns c = tt
