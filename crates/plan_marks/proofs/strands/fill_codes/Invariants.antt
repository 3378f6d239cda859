-- `plan_marks::strands::fill_codes`: the strands before have their codes. Assumes nothing.
use Prim.Native.Nat.{ℕ}
use mathlib.Core.Path.{◌≡◌}
use lib.ListN.{take}
use Rattle.bay_system.specs.System.{system_of}
use Rattle.bay_lists.specs.Lists.{constraints_of}
use Rattle.ledger_rows.specs.Blocks.{tab}
use Rattle.plan_reasons.specs.Reasons.{rule_of}
use Rattle.plan_marks.specs.Marks.{code_of}
use Rattle.plan_marks.proofs.strands.fill_codes.Given as goal

abbrev pub invariant-loop-strand : goal.invariant-loop-strand
invariant-loop-strand l = take l.strand l.rules ≡ tab (λ (t : ℕ). code_of (rule_of (system_of l.system) (constraints_of l.constraints) l.bay t)) l.strand
