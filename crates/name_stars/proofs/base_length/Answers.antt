-- `name_stars::base_length` meets its contract. The invariant: what is left has the answer. Assumes nothing.
use Prim.Native.Nat.{◌≤◌}
use mathlib.Core.Path.{◌∙◌, sym}
use native.Mathlib.Omega.{arith}
use Rattle.name_stars.proofs.BeforeStars.{no_star, a_star, none_left}
use Rattle.name_stars.proofs.base_length.Goals as goal

pub returns-then-name-n-ne42 : goal.returns-then-name-n-ne42
returns-then-name-n-ne42 c = (sym (no_star _ _ (omega arith) c.if-name-n-ne42.true) ∙ c.loop-n.invariant, omega arith)

pub loop-n-preserved : goal.loop-n-preserved
loop-n-preserved c = sym (a_star _ _ (omega arith) c.if-name-n-ne42.false) ∙ c.loop-n.invariant

pub returns : goal.returns
returns c =
    let nothing : c.loop-n.n ≤ 0 = omega arith in
    (omega (arith, sym (none_left _ _ nothing) ∙ c.loop-n.invariant), omega arith)
