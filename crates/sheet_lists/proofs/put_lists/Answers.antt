-- `sheet_lists::put_lists` meets its contract. The loop's invariant is `Filling`: what is left of the lists ends both tables. Assumes nothing.
use mathlib.Core.Path.{◌∙◌, sym}
use native.Mathlib.Omega.{arith}
use lib.ListN.{length-set}
use Rattle.sheet_lists.proofs.Filling.{filling_starts, filling_goes_on, offsets_end, tiles_end}
use Rattle.sheet_lists.proofs.put_lists.Goals as goal

pub loop-bay-init : goal.loop-bay-init
loop-bay-init c = let a = c.args in
    filling_starts a.bays a.text.now a.tiles.now a.offsets.now c.requires.text_value c.requires.offsets_len c.requires.text_in_bounds

pub bounds-offsets-bay : goal.bounds-offsets-bay
bounds-offsets-bay c = let long = c.loop-bay.invariant.long in omega arith

pub loop-bay-preserved : goal.loop-bay-preserved
loop-bay-preserved c = let a = c.args in
    let s = c.loop-bay in
    let f = c.field_or_empty-field in
    filling_goes_on a.bays a.text.now a.tiles.now s.offsets s.tiles s.bay s.next s.at s.invariant c.loop-bay-test.true f.result f.ensures c.raw.result.now c.raw.ensures c.put_list-at.result _
    c.put_list-at.ensures

pub bounds-offsets-bays : goal.bounds-offsets-bays
bounds-offsets-bays c = let long = c.loop-bay.invariant.long in omega arith

pub shape_of-offsets : goal.shape_of-offsets
shape_of-offsets c = length-set c.loop-bay.offsets c.args.bays _ ∙ c.loop-bay.invariant.long ∙ sym c.requires.offsets_len

pub shape_of-tiles : goal.shape_of-tiles
shape_of-tiles c = c.loop-bay.invariant.put.long

pub returns : goal.returns
returns c = let a = c.args in
    let s = c.loop-bay in
    record {
      offsets_after = offsets_end a.bays a.text.now a.tiles.now s.offsets s.tiles s.bay s.next s.at s.invariant c.loop-bay-test.false;
      tiles_after = tiles_end a.bays a.text.now a.tiles.now s.offsets s.tiles s.bay s.next s.at s.invariant c.loop-bay-test.false c.requires.text_in_bounds;
    }
