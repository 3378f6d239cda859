-- `name_stars::base_length` meets its contract. The invariant: what is left has the answer. Assumes nothing.
use mathlib.Core.Path.{◌≡◌}
use Rattle.name_stars.specs.Stars.{before_stars, base_length}
use Rattle.name_stars.proofs.base_length.Given as goal

abbrev pub invariant-loop-n : goal.invariant-loop-n
invariant-loop-n l = before_stars l.name l.n ≡ base_length l.name
