-- `sheet_seeds::put_places` meets its contract. The loop's invariant is `InPlaces`: the seeds that are left end the table and tell the fault. Assumes
-- nothing.
use mathlib.Core.Path.{◌∙◌}
use native.Mathlib.Omega.{arith}
use lib.ListN.{length-set}
use Rattle.sheet_numbers.proofs.QuotedNumbers.{count_there, count_value}
use Rattle.sheet_seeds.proofs.Places.{places_start, places_go_on, places_put, places_fault}
use Rattle.sheet_seeds.proofs.put_places.Goals as goal

pub loop-i-init : goal.loop-i-init
loop-i-init c = let a = c.args in places_start a.records a.sheet.now a.places.now

pub bounds-places-i : goal.bounds-places-i
bounds-places-i c = let long = c.loop-i.invariant.put.long in omega arith

pub bounds-places-i-in-loop-i : goal.bounds-places-i-in-loop-i
bounds-places-i-in-loop-i c = let long = c.loop-i.invariant.put.long in simp length-set (omega arith)

pub loop-i-preserved : goal.loop-i-preserved
loop-i-preserved c = let a = c.args in
    let s = c.loop-i in
    places_go_on a.records a.sheet.now a.places.now s.places s.fault s.next s.i s.invariant c.loop-i-test.true c.place_after-second.result c.place_after-next.result c.place_after-second.ensures c.place_after-next.ensures
    _ _ (c.unwrap_or.ensures ∙ rw c.count_at-row.ensures (count_value _)) (c.unwrap_or-in-loop-i.ensures ∙ rw c.count_at-column.ensures (count_value _))
    _ _ (c.is_some.ensures ∙ rw c.count_at-row.ensures (count_there _)) (c.is_some-in-loop-i.ensures ∙ rw c.count_at-column.ensures (count_there _))
    c.first_fault-fault.result c.first_fault-fault.ensures

pub shape_of-places : goal.shape_of-places
shape_of-places c = c.loop-i.invariant.put.long

pub returns : goal.returns
returns c = let a = c.args in
    let s = c.loop-i in
    record {
      value = places_fault a.records a.sheet.now a.places.now s.places s.fault s.next s.i s.invariant c.loop-i-test.false;
      places_after = places_put a.records a.sheet.now a.places.now s.places s.fault s.next s.i s.invariant c.loop-i-test.false;
    }
