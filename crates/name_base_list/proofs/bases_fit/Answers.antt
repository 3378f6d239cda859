-- `name_base_list::bases_fit` meets its contract. The invariant: the bases that are left decide. Assumes nothing.
use mathlib.Core.Path.{◌∙◌, sym}
use native.Mathlib.Omega.{arith}
use Rattle.name_base_list.proofs.Within.{base_fits, base_overruns, bases_done}
use Rattle.name_base_list.proofs.bases_fit.Goals.{then-end-offset-via-then-end-offset, then-end-offset-via-else-end-offset+then-end-offset-2}
use Rattle.name_base_list.proofs.bases_fit.Goals as goal

pub returns-then-end-offset : goal.returns-then-end-offset
returns-then-end-offset c =
    elim c.then-end-offset.branch [
      | then-end-offset-via-then-end-offset w ↦ sym (c.loop-j.invariant ∙ base_overruns _ _ _ _ c.loop-j-test.true (omega arith))
      | then-end-offset-via-else-end-offset+then-end-offset-2 w ↦ sym (c.loop-j.invariant ∙ base_overruns _ _ _ _ c.loop-j-test.true (omega arith))
    ]

pub loop-j-preserved : goal.loop-j-preserved
loop-j-preserved c = c.loop-j.invariant ∙ base_fits _ _ _ _ c.loop-j-test.true (omega arith)

pub returns : goal.returns
returns c = sym (c.loop-j.invariant ∙ bases_done _ _ _ _ c.loop-j-test.false)
