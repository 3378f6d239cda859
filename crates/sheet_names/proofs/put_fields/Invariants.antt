-- `sheet_names::put_fields` meets its contract. The loop's invariant is `InFields`: the fields passed are appended. Assumes nothing.
use Rattle.sheet_names.proofs.Filling.{InFields}
use Rattle.sheet_names.proofs.put_fields.Given as goal

abbrev pub invariant-loop : goal.invariant-loop
invariant-loop l = InFields l.count l.text l.at l.initial.out l.initial.offsets l.initial.present l.initial.stop l.stop l.next l.counter l.out l.offsets l.present
