-- `ledger_fill::need` meets its contract. The invariant: the rows of the first k bays are counted. Assumes nothing.
use mathlib.Core.List.{List, []}
use Prim.Native.Nat.{ℕ}
use lib.Ieee.{Float}
use lib.ListN.{length}
use Rattle.ledger_fill.specs.Handed.{no_bonds}
use Rattle.ledger_fill.proofs.Sizes.{Counting}
use Rattle.ledger_fill.proofs.need.Given as goal

-- the sizes depend on no energy
abbrev none : ℕ → List Float
none k = []

abbrev pub invariant-loop-k : goal.invariant-loop-k
invariant-loop-k l = Counting l.window l.sets none no_bonds (length l.sets) l.k l.rows l.used
