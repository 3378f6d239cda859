-- `plan_bay_names::front_bytes` meets its contract: the invariant is that the bytes passed and those to come are the bytes asked for. Assumes nothing.
use Prim.Native.Nat.{◌+◌}
use mathlib.Core.Path.{◌≡◌}
use lib.ListN.{drop}
use Rattle.plan_bay_names.specs.Bays.{front_bytes}
use Rattle.plan_bay_names.proofs.front_bytes.Given as goal

abbrev pub invariant-loop-i : goal.invariant-loop-i
invariant-loop-i l = l.i + front_bytes l.left (drop l.i l.text) ≡ front_bytes l.count l.text
