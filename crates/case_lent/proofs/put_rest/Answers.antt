-- `case_lent::put_rest` meets its contract: nothing, or the word as it was put. Assumes nothing.
use mathlib.Core.Path.{refl}
use Rattle.case_lent.proofs.put_rest.Goals as goal

pub returns-then-kept : goal.returns-then-kept
returns-then-kept c = rw c.if-kept.true (record { place = refl; slice = refl })

pub returns : goal.returns
returns c = let p = c.put_text.ensures in rw c.if-kept.false (record { place = p.place; slice = p.slice })
