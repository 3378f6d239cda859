-- `bay_glues::matrix_cell` meets its contract: a row that begins behind the end has no number. Assumes nothing.
use Prim.Native.Nat.{◌+◌, ◌*◌}
use mathlib.Core.Path.{sym, ◌∙◌}
use native.Mathlib.Omega.{arith}
use lib.Ieee.{nan, of_bits}
use lib.ListN.{length, get_or-eq_default}
use borrow.Author.Tests.{leb-false}
use Rattle.bay_glues.proofs.matrix_cell.Goals as goal

pub returns-then-begins_within : goal.returns-then-begins_within
unfolding of_bits
returns-then-begins_within c = c.at_or.ensures

pub returns-else-begins_within : goal.returns-else-begins_within
unfolding of_bits
returns-else-begins_within c = let a = c.args in
    let behind = leb-false (a.a * a.glues) (length a.matrix.now) (sym c.begins_within.ensures ∙ c.if-begins_within.false) in
    sym (get_or-eq_default a.matrix.now nan {n = a.a * a.glues + a.b} (omega (arith, behind)))
