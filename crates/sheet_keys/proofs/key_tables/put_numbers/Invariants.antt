-- `key_tables::put_numbers` meets its contract. The loop's invariant is `InPairs`: the numbers that are left end the table. Assumes nothing.
use Rattle.sheet_numbers.proofs.Pairs.{InPairs}
use Rattle.sheet_keys.specs.SheetKeys.{number}
use Rattle.sheet_keys.proofs.key_tables.put_numbers.Given as goal

abbrev pub invariant-loop-i : goal.invariant-loop-i
invariant-loop-i l = InPairs number l.records 5 2 l.sheet l.initial.numbers l.numbers l.next l.i
