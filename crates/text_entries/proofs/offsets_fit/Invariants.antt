-- `text_entries::offsets_fit` meets its contract. The invariant: all that is left decides, after the last offset. Assumes nothing.
use mathlib.Core.Path.{◌≡◌}
use lib.ListN.{drop}
use Rattle.text_entries.specs.Entries.{offsets_from, offsets_fit}
use Rattle.text_entries.proofs.offsets_fit.Given as goal

abbrev pub invariant-loop-next : goal.invariant-loop-next
invariant-loop-next l = offsets_fit l.end l.offsets ≡ offsets_from l.end l.last (drop l.next-index l.offsets)
