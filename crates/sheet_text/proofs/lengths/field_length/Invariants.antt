-- `lengths::field_length` meets its contract: the invariant is that what is left of the list is still to be added. Assumes nothing.
use lib.ListN.{drop}
use Rattle.sheet_text.specs.Written.{spaced}
use Rattle.sheet_text.proofs.Sums.{Summing}
use Rattle.sheet_text.proofs.lengths.field_length.Given as goal

abbrev pub invariant-loop-i : goal.invariant-loop-i
invariant-loop-i l = Summing (spaced 0 l.list) (spaced l.i (drop l.i l.list)) l.total
