-- `sheet_text::put_field` meets its contract. Assumes nothing.
use mathlib.Core.Path.{ap}
use mathlib.Core.List.{◌++◌}
use Rattle.text_put.specs.Puts.{number_text}
use Rattle.text_put.proofs.Putting.{then_put, put_as, ending_goes_on, ending_ends}
use Rattle.sheet_text.specs.Written.{gap, spaced}
use lib.ListN.{get_or, drop}
use Prim.Native.Nat.{◌+◌}
use Rattle.sheet_text.proofs.Parts.{field_next, field_end}
use Rattle.sheet_text.proofs.put_field.Goals as goal

pub loop-i-preserved : goal.loop-i-preserved
loop-i-preserved c = let list = c.args.list.now in
    let s = c.loop-i in
    ending_goes_on s.invariant (gap s.i ++ number_text (get_or list s.i 0)) (spaced (s.i + 1) (drop (s.i + 1) list)) (field_next list s.i c.loop-i-test.true)
    (then_put (put_as c.gap.ensures c.put_text-begin.ensures) (put_as (ap number_text c.from.ensures) c.put_number-next.ensures))

pub returns : goal.returns
returns c = let s = c.loop-i in ending_ends s.invariant (field_end c.args.list.now s.i c.loop-i-test.false)
