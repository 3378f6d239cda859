-- `ledger_fill::rows_of` meets its contract: the product is small. Assumes nothing.
use mathlib.Core.Path.{sym, ap, subst}
use Prim.Native.Nat.{◌*◌, ◌≤◌}
use native.Mathlib.Omega.{arith}
use Rattle.units.specs.Limits.{most_rows, most_strands}
use Rattle.ledger_fill.proofs.Sizes.{product_small}
use Rattle.ledger_fill.proofs.rows_of.Goals as goal

pub overflow_mul-result : goal.overflow_mul-result
overflow_mul-result c = let b = c.args.bay in
    let few : b.width * c.size.result ≤ most_rows * most_strands = subst (λ n. b.width * n ≤ most_rows * most_strands) (sym c.size.ensures) (product_small b.width b.set c.requires) in
    omega arith

pub returns : goal.returns
returns c = ap (λ n. c.args.bay.width * n) c.size.ensures
