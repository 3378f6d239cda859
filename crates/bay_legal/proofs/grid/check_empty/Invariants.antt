-- `bay_legal::grid::check_empty` meets its contract. The invariant: no bay scanned so far is without a strand. Assumes nothing.
use Prim.Native.Nat.{◌*◌, ◌-◌}
use mathlib.Core.Path.{◌≡◌}
use Rattle.bay_legal.specs.Sets.{first_empty}
use Rattle.bay_legal.proofs.grid.check_empty.Given as goal

abbrev pub invariant-loop-k : goal.invariant-loop-k
invariant-loop-k l =
    let n = l.rows * l.cols in first_empty l.rows l.cols l.sets 0 n ≡ first_empty l.rows l.cols l.sets l.k (n - l.k)
