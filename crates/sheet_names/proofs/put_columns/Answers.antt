-- `sheet_names::put_columns` meets its contract. The loop's invariant is `InColumns`: the columns of the records passed are appended. Assumes
-- nothing.
use native.Mathlib.Omega.{arith}
use Rattle.sheet_names.proofs.Appending.{appended_out, appended_offsets, appended_present, appended_within}
use Rattle.sheet_names.proofs.Filling.{columns_start, first_inside, columns_room, columns_go_on, columns_end}
use Rattle.sheet_names.proofs.put_columns.Goals as goal

pub loop-init : goal.loop-init
loop-init c = let a = c.args in
    columns_start a.records a.wanted.width a.wanted.from a.wanted.count a.text.now a.out.now a.offsets.now a.present.now a.start c.requires.bytes_in_bounds

pub put_fields-stop-requires : goal.put_fields-stop-requires
put_fields-stop-requires c = let a = c.args in
    let s = c.loop in
    let room = columns_room a.records a.wanted.width a.wanted.from a.wanted.count a.text.now a.out.now a.offsets.now a.present.now a.start c.requires.bytes_in_bounds s.stop s.next s.counter s.out s.offsets s.present s.invariant c.loop-test.true in
    let offsets = appended_offsets s.invariant.done in
    let present = appended_present s.invariant.done in
    let offsets_fit_holds = c.requires.from_in_bounds in
    let present_fit = c.requires.from_in_bounds_2 in
    record {
      at_in_bounds = first_inside a.records a.wanted.width a.wanted.from a.wanted.count a.text.now a.out.now a.offsets.now a.present.now a.start c.requires.bytes_in_bounds s.stop s.next s.counter s.out s.offsets s.present s.invariant c.place_after-first.result c.place_after-first.ensures;
      bytes_in_bounds = appended_within s.invariant.done;
      count_in_bounds = omega arith;
      count_in_bounds_2 = omega arith;
    }

pub loop-preserved : goal.loop-preserved
loop-preserved c = let a = c.args in
    let s = c.loop in
    columns_go_on a.records a.wanted.width a.wanted.from a.wanted.count a.text.now a.out.now a.offsets.now a.present.now a.start c.requires.bytes_in_bounds s.stop s.next s.counter s.out s.offsets s.present s.invariant c.loop-test.true c.place_after-first.result c.place_after-next.result c.place_after-first.ensures c.place_after-next.ensures c.put_fields-stop.ensures

pub shape_of-out : goal.shape_of-out
shape_of-out c = appended_out c.loop.invariant.done

pub shape_of-offsets : goal.shape_of-offsets
shape_of-offsets c = appended_offsets c.loop.invariant.done

pub shape_of-present : goal.shape_of-present
shape_of-present c = appended_present c.loop.invariant.done

pub returns : goal.returns
returns c = let a = c.args in
    let s = c.loop in
    columns_end a.records a.wanted.width a.wanted.from a.wanted.count a.text.now a.out.now a.offsets.now a.present.now a.start c.requires.bytes_in_bounds s.stop s.next s.counter s.out s.offsets s.present s.invariant c.loop-test.false
