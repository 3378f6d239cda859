-- `text_plain::first_stray` meets its contract: the invariant is that the characters before the place are sound. Assumes nothing.
use Prim.Native.Nat.{◌-◌}
use lib.ListN.{length}
use Rattle.text_plain.proofs.Strays.{Walked}
use Rattle.text_plain.proofs.first_stray.Given as goal

abbrev pub invariant-loop-i : goal.invariant-loop-i
invariant-loop-i l = Walked l.text l.i

abbrev pub decreases-loop-i : goal.decreases-loop-i
decreases-loop-i l = length l.text - l.i
