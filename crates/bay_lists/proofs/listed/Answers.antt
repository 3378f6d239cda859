-- `bay_lists::listed` meets its contract: the two ends of a bay's list bound the part. Assumes nothing.
use native.Mathlib.Omega.{arith}
use Rattle.bay_lists.proofs.Ends.{ends}
use Rattle.bay_lists.proofs.listed.Goals as goal

pub offset_bounds-tiles-offsets : goal.offset_bounds-tiles-offsets
offset_bounds-tiles-offsets c = let a = c.args in
    omega (arith, ends a.bays a.offsets.now a.tiles.now a.bay c.requires.shaped c.requires.bay_lt_bays, c.well_formed.1.1.0.1)

pub slice_bounds-result-count : goal.slice_bounds-result-count
slice_bounds-result-count c = let a = c.args in
    (ends a.bays a.offsets.now a.tiles.now a.bay c.requires.shaped c.requires.bay_lt_bays).0

pub slice_bounds-result-start : goal.slice_bounds-result-start
slice_bounds-result-start c = let a = c.args in
    (ends a.bays a.offsets.now a.tiles.now a.bay c.requires.shaped c.requires.bay_lt_bays).0

pub slice_bounds-result-end : goal.slice_bounds-result-end
slice_bounds-result-end c = let a = c.args in
    (ends a.bays a.offsets.now a.tiles.now a.bay c.requires.shaped c.requires.bay_lt_bays).1
