-- `case_lent::same_float` meets its contract. Assumes nothing.
use mathlib.Core.Path.{◌≡◌, refl}
use lib.Ieee.{binary64, of_bits, of_int, round}
use lib.IntN.{pos}
use Rattle.case_lent.proofs.same_float.Goals as goal

one : of_bits binary64 4607182418800017408 ≡ of_int binary64 (pos 1)
unfolding of_bits of_int round
one = refl

pub returns-then-x-y : goal.returns-then-x-y
returns-then-x-y c = rw (c.if-x-y.true, one)

pub returns-else-x-y : goal.returns-else-x-y
returns-else-x-y c = rw c.if-x-y.false
