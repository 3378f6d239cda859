-- `sheet_seeds::put_places` meets its contract. The loop's invariant is `InPlaces`: the seeds that are left end the table and tell the fault. Assumes
-- nothing.
use Rattle.sheet_seeds.proofs.Places.{InPlaces}
use Rattle.sheet_seeds.proofs.put_places.Given as goal

abbrev pub invariant-loop-i : goal.invariant-loop-i
invariant-loop-i l = InPlaces l.records l.sheet l.initial.places l.places l.fault l.next l.i
