-- `name_base_list::bases_fit` meets its contract. The invariant: the bases that are left decide. Assumes nothing.
use Prim.Native.Nat.{◌-◌}
use mathlib.Core.Path.{◌≡◌}
use Rattle.name_base_list.specs.Bases.{bases_fit_from, bases_fit}
use Rattle.name_base_list.proofs.bases_fit.Given as goal

abbrev pub invariant-loop-j : goal.invariant-loop-j
invariant-loop-j l = bases_fit l.end l.bases l.count ≡ bases_fit_from l.end l.bases l.j (l.count - l.j)
