-- `sheet_names::put_fields` meets its contract. The loop's invariant is `InFields`: the fields passed are appended. Assumes nothing.
use native.Mathlib.Omega.{arith}
use Rattle.sheet_names.proofs.Appending.{appended_out, appended_offsets, appended_present}
use Rattle.sheet_names.proofs.Filling.{fields_start, fields_count, fields_go_on, fields_end}
use Rattle.sheet_names.proofs.put_fields.Goals as goal

pub loop-init : goal.loop-init
loop-init c = let a = c.args in
    fields_start a.count a.text.now a.at a.out.now a.offsets.now a.present.now a.start c.requires.at_in_bounds c.requires.bytes_in_bounds

pub put_entry-stop-requires : goal.put_entry-stop-requires
put_entry-stop-requires c = let a = c.args in
    let s = c.loop in
    let n = fields_count a.count a.text.now a.at a.out.now a.offsets.now a.present.now a.start c.requires.at_in_bounds c.requires.bytes_in_bounds s.stop s.next s.counter s.out s.offsets s.present s.invariant in
    let offsets = appended_offsets s.invariant.done in
    let present = appended_present s.invariant.done in
    let offsets_fit_holds = c.requires.count_in_bounds in
    let present_fit = c.requires.count_in_bounds_2 in
    let more = c.loop-test.true in
    record {
      entries_in_bounds = omega arith;
      entries_in_bounds_2 = omega arith;
    }

pub loop-preserved : goal.loop-preserved
loop-preserved c = let a = c.args in
    let s = c.loop in
    fields_go_on a.count a.text.now a.at a.out.now a.offsets.now a.present.now a.start c.requires.at_in_bounds c.requires.bytes_in_bounds s.stop s.next s.counter s.out s.offsets s.present s.invariant c.loop-test.true c.field_or_empty-field.result c.field_or_empty-field.ensures (rw c.raw.ensures at c.put_entry-stop.ensures)

pub shape_of-out : goal.shape_of-out
shape_of-out c = appended_out c.loop.invariant.done

pub shape_of-offsets : goal.shape_of-offsets
shape_of-offsets c = appended_offsets c.loop.invariant.done

pub shape_of-present : goal.shape_of-present
shape_of-present c = appended_present c.loop.invariant.done

pub returns : goal.returns
returns c = let a = c.args in
    let s = c.loop in
    fields_end a.count a.text.now a.at a.out.now a.offsets.now a.present.now a.start c.requires.at_in_bounds c.requires.bytes_in_bounds s.stop s.next s.counter s.out s.offsets s.present s.invariant c.loop-test.false
