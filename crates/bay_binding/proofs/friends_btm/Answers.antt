-- `bay_binding::friends_btm` meets its contract: each strand is tested in turn. Assumes nothing.
use mathlib.Core.Bool.{◌&&◌}
use mathlib.Core.Path.{◌∙◌}
use lib.Dec.{ltb}
use Rattle.units.specs.Limits.{most_strands}
use Rattle.sets.proofs.Build.{build_none, build_more}
use Rattle.bay_system.specs.System.{system_of}
use Rattle.bay_binding.specs.Binding.{may_lie}
use Rattle.bay_binding.proofs.friends_btm.Goals as goal

pub loop-t-init : goal.loop-t-init
loop-t-init c = let s = system_of c.args.system.now in
    c.empty-set.ensures ∙ build_none (λ t. ltb t s.sizes.strands && may_lie s c.args.glue t) most_strands

pub loop-t-preserved : goal.loop-t-preserved
loop-t-preserved c = let s = system_of c.args.system.now in
    build_more (λ t. ltb t s.sizes.strands && may_lie s c.args.glue t) most_strands _ _ _ _ c.loop-t-test.true c.loop-t.invariant
    c.may_lie.ensures c.with_if-set.ensures
