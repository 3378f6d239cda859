-- `key_faults::check_keys` meets its contract. The loop's invariant is `InKeys`: the records passed are keys. Assumes nothing.
use Rattle.sheet_keys.proofs.Checking.{InKeys}
use Rattle.sheet_keys.proofs.key_faults.check_keys.Given as goal

abbrev pub invariant-loop-i : goal.invariant-loop-i
invariant-loop-i l = InKeys l.records l.sheet l.next l.i
