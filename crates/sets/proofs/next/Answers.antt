-- `sets::next` meets its contract: the zeros below the lowest one of the word, cleared below `from`, lead to the next strand. From 64 on there is none.
-- Assumes nothing.
use mathlib.Core.Path.{ap, ◌∙◌}
use native.Mathlib.Nat.{mod-eq_of_lt, lt_of_le_of_lt, div-mul-le_self}
use Prim.Native.Nat.{◌^◌}
use lib.Count.{count_trailing_zeros}
use Rattle.sets.specs.Set.{has}
use Rattle.sets.proofs.NextMember.{next_none}
use Rattle.sets.proofs.Operations.{trailing_next}
use Rattle.sets.proofs.next.Goals as goal

pub returns-then-from-lt64 : goal.returns-then-from-lt64
returns-then-from-lt64 c = let w = c.args.set in
    let t = c.args.from in
    ap (count_trailing_zeros 64) (mod-eq_of_lt (lt_of_le_of_lt (div-mul-le_self w (2 ^ t)) c.ranges.set.fits)) ∙ trailing_next 64 w t

pub returns-else-from-lt64 : goal.returns-else-from-lt64
returns-else-from-lt64 c = next_none (has c.args.set) c.args.from 64 c.if-from-lt64.false
