-- `text_energy::scaled` meets its contract. Assumes nothing.
use Prim.Native.Nat.{◌-◌}
use native.Mathlib.Omega.{arith}
use lib.Pow.{pow_pos}
use Rattle.text_energy.proofs.Scaling.{shifted_out, unit_bound}
use Rattle.text_energy.proofs.scaled.Goals as goal

pub returns-then-x-le1014 : goal.returns-then-x-le1014
returns-then-x-le1014 c = let a = c.args in shifted_out a.digits (1075 - a.x) c.requires.0 (omega (arith, c.if-x-le1014.true))

pub overflow_add-result : goal.overflow_add-result
overflow_add-result c = let few = c.requires.0 in
    let far = c.if-x-le1014.false in
    let bound = unit_bound (1075 - c.args.x) (omega arith) in
    let same = c.power_of_two-unit.ensures in
    omega arith

pub overflow_mul-result-2 : goal.overflow_mul-result-2
overflow_mul-result-2 c = let far = c.if-x-le1014.false in
    let bound = unit_bound (1075 - c.args.x) (omega arith) in
    let same = c.power_of_two-unit.ensures in
    omega arith

pub nonzero_div-result : goal.nonzero_div-result
nonzero_div-result c = let some = pow_pos (1075 - c.args.x) in
    let same = c.power_of_two-unit.ensures in
    omega arith

pub returns : goal.returns
returns c = rw c.power_of_two-unit.ensures
