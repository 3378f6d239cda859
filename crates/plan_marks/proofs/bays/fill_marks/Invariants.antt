-- `plan_marks::bays::fill_marks`: the bays before are marked. Assumes nothing.
use Prim.Native.Nat.{ℕ}
use mathlib.Core.Path.{◌≡◌}
use lib.ListN.{take}
use Rattle.bay_system.specs.System.{system_of}
use Rattle.bay_lists.specs.Lists.{constraints_of}
use Rattle.ledger_rows.specs.Blocks.{tab}
use Rattle.plan_reasons.specs.Reasons.{reason_of}
use Rattle.plan_marks.specs.Marks.{mark_of}
use Rattle.plan_marks.proofs.bays.fill_marks.Given as goal

abbrev pub invariant-loop-bay : goal.invariant-loop-bay
invariant-loop-bay l = take l.bay l.marks ≡ tab (λ (b : ℕ). mark_of (reason_of (system_of l.system) (constraints_of l.constraints) b)) l.bay
