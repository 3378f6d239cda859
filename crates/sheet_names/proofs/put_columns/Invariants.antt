-- `sheet_names::put_columns` meets its contract. The loop's invariant is `InColumns`: the columns of the records passed are appended. Assumes
-- nothing.
use Rattle.sheet_names.proofs.Filling.{InColumns}
use Rattle.sheet_names.proofs.put_columns.Given as goal

abbrev pub invariant-loop : goal.invariant-loop
invariant-loop l = InColumns l.records l.wanted.width l.wanted.from l.wanted.count l.text l.initial.out l.initial.offsets l.initial.present l.initial.stop l.stop l.next l.counter l.out l.offsets l.present
