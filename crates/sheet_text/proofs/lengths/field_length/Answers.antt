-- `lengths::field_length` meets its contract. Assumes nothing.
use Rattle.sheet_text.proofs.Parts.{field_end}
use Rattle.sheet_text.proofs.Sums.{summing_starts, summing_ends, field_goes_on}
use Rattle.sheet_text.specs.Written.{spaced}
use Rattle.sheet_text.proofs.lengths.field_length.Goals as goal

pub loop-i-init : goal.loop-i-init
loop-i-init c = summing_starts (spaced 0 c.args.list.now)

pub loop-i-preserved : goal.loop-i-preserved
loop-i-preserved c = let s = c.loop-i in
    field_goes_on c.args.list.now s.i s.total s.invariant c.loop-i-test.true c.from.result c.number_length.result c.saturating_add-total.result c.from.ensures c.number_length.ensures
    c.saturating_add-total.ensures

pub returns : goal.returns
returns c = let s = c.loop-i in summing_ends s.invariant (field_end c.args.list.now s.i c.loop-i-test.false)
