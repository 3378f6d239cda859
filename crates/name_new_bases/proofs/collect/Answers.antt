-- `name_new_bases::collect` meets its contract. The invariant: the list holds the bases of the first i entries. Assumes nothing.
use Prim.Native.Nat.{◌+◌}
use mathlib.Core.Path.{◌≡◌}
use native.Mathlib.Omega.{arith}
use lib.ListN.{length}
use native.Mathlib.Numerals.{add-one-le}
use Rattle.std.proofs.lemmas.Result.{err_from_is_err_and}
use Rattle.name_glues.specs.Names.{names_of}
use Rattle.name_new_bases.proofs.Collecting.{begins, collects, stops}
use Rattle.name_new_bases.proofs.collect.Goals as goal

pub loop-i-init : goal.loop-i-init
loop-i-init c = begins (names_of c.args.names.now.names)

pub returns-in_err-get_or_generate : goal.returns-in_err-get_or_generate
returns-in_err-get_or_generate c =
    let p = err_from_is_err_and c.from_residual.result c.from_residual.ensures.1 in
    rw (p.1, p.2) (stops (names_of c.args.names.now.names) (c.loop-i.i + 1) _ c.in_err-get_or_generate.ensures.err (rw c.count-i-end.ensures at (add-one-le c.loop-i-test.true)))

pub returns : goal.returns
returns c =
    let all : length c.args.names.now.names.present.now ≡ c.loop-i.i = omega arith in
    rw all (collects (names_of c.args.names.now.names) c.loop-i.i c.loop-i.invariant)
