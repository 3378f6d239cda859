-- `sheet_fields::quoted_length` meets its contract. The loop's invariant: the bytes passed and those still to be passed make the whole. Assumes nothing.
use Prim.Native.Nat.{◌+◌, ◌-◌, ◌≤◌}
use mathlib.Core.Path.{◌≡◌}
use lib.ListN.{length, drop}
use Rattle.sheet_fields.specs.Fields.{quoted_length}
use Rattle.sheet_fields.proofs.quoted_length.Given as goal

abbrev pub invariant-loop-passed : goal.invariant-loop-passed
invariant-loop-passed l = record { whole : l.passed + quoted_length (drop l.passed l.text) ≡ quoted_length l.text; within : l.passed ≤ length l.text }

abbrev pub decreases-loop-passed : goal.decreases-loop-passed
decreases-loop-passed l = length l.text - l.passed
