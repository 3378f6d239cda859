-- `lists::count_numbers` meets its contract: the invariant is that the words so far are numbers. Assumes nothing.
use mathlib.Core.Path.{◌≡◌}
use lib.ListN.{length}
use Rattle.sheet_number_lists.proofs.Turns.{Counting}
use Rattle.sheet_number_lists.proofs.lists.count_numbers.Given as goal

abbrev pub invariant-loop-word : goal.invariant-loop-word
invariant-loop-word l = record { counted : l.count ≡ length l.yielded; words : Counting l.content (length l.yielded) }
