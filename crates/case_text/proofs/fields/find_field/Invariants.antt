-- `fields::find_field` meets its contract. The loop's invariant is what `Search` says of the place that it has come to. Assumes nothing.
use Prim.Native.Nat.{◌-◌}
use lib.ListN.{length}
use Rattle.case_text.proofs.Words.{Search}
use Rattle.case_text.proofs.fields.find_field.Given as goal

abbrev pub invariant-loop-at : goal.invariant-loop-at
invariant-loop-at l = Search l.key l.line l.at

abbrev pub decreases-loop-at : goal.decreases-loop-at
decreases-loop-at l = length l.line - l.at
