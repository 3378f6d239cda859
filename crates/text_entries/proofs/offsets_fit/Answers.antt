-- `text_entries::offsets_fit` meets its contract. The invariant: all that is left decides, after the last offset. Assumes nothing.
use mathlib.Core.Path.{◌∙◌, sym}
use Rattle.text_entries.proofs.Walk.{offset_passes, offset_falls, offset_overruns, offsets_end}
use Rattle.text_entries.proofs.offsets_fit.Goals.{then-next-last-via-then-next-last, then-next-last-via-else-next-last+then-end-next}
use Rattle.text_entries.proofs.offsets_fit.Goals as goal

pub returns-then-next-last : goal.returns-then-next-last
returns-then-next-last c =
    elim c.then-next-last.branch [
      | then-next-last-via-then-next-last w ↦ sym (c.loop-next.invariant ∙ offset_falls _ _ _ _ c.loop-next-test.true w.if-next-last.true)
      | then-next-last-via-else-next-last+then-end-next w ↦ sym (c.loop-next.invariant ∙ offset_overruns _ _ _ _ c.loop-next-test.true w.if-next-last.false w.if-end-next.true)
    ]

pub loop-next-preserved : goal.loop-next-preserved
loop-next-preserved c = c.loop-next.invariant ∙ offset_passes _ _ _ _ c.loop-next-test.true c.if-next-last.false c.if-end-next.false

pub returns : goal.returns
returns c = sym (c.loop-next.invariant ∙ offsets_end _ _ _ _ c.loop-next-test.false)
