-- `name_key_values::KeyValues::check`: the keys that are left decide. Assumes nothing.
use Prim.Native.Nat.{◌-◌}
use mathlib.Core.Path.{◌≡◌}
use lib.ListN.{length}
use Rattle.text_entries.specs.InOrder.{each_from}
use Rattle.name_key_values.specs.Values.{values_of}
use Rattle.name_key_values.specs.Refusals.{key_verdict, values_verdict}
use Rattle.name_key_values.proofs.KeyValues.check.Given as goal

abbrev pub invariant-loop-k : goal.invariant-loop-k
invariant-loop-k l =
    values_verdict (values_of l.self) ≡ each_from (key_verdict (values_of l.self)) l.k (length l.self.kinds.now - l.k)
