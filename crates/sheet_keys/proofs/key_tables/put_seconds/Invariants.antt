-- `key_tables::put_seconds` meets its contract. The loop's invariant is `InSeconds`: the flags that are left end the table. Assumes nothing.
use Rattle.sheet_keys.proofs.Seconds.{InSeconds}
use Rattle.sheet_keys.proofs.key_tables.put_seconds.Given as goal

abbrev pub invariant-loop-i : goal.invariant-loop-i
invariant-loop-i l = InSeconds l.records l.present l.initial.paired l.paired l.i
