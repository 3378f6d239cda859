-- `bay_binding::friends_btm` meets its contract. The invariant: the set has those below t that may lie on the bay. Assumes nothing.
use mathlib.Core.Bool.{◌&&◌}
use mathlib.Core.Path.{◌≡◌}
use lib.Dec.{ltb}
use Rattle.sets.specs.Set.{word}
use Rattle.bay_system.specs.System.{system_of}
use Rattle.bay_binding.specs.Binding.{may_lie}
use Rattle.bay_binding.proofs.friends_btm.Given as goal

abbrev pub invariant-loop-t : goal.invariant-loop-t
invariant-loop-t l = let s = system_of l.system in l.set ≡ word (λ t. ltb t s.sizes.strands && may_lie s l.glue t) l.t
