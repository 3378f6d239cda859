-- `sheet_glues::put_glues` meets its contract: the scaffold's names are laid behind the strands'. Assumes nothing.
use mathlib.Core.Path.{◌∙◌}
use native.Mathlib.Omega.{arith}
use lib.ListN.{length-set}
use Rattle.sheet_names.proofs.Appending.{appended_offsets, appended_present, appended_within}
use Rattle.sheet_names.proofs.Filling.{length_columns}
use Rattle.sheet_glues.proofs.Gluing.{glues_laid}
use Rattle.sheet_glues.proofs.put_glues.Goals as goal

pub put_columns-first-requires : goal.put_columns-first-requires
put_columns-first-requires c = let l = length-set c.args.offsets.now 0 0 in
    record {
      bytes_in_bounds = omega arith;
      from_in_bounds = omega arith;
      from_in_bounds_2 = omega arith;
    }

pub put_columns-requires : goal.put_columns-requires
put_columns-requires c = let l = length-set c.args.offsets.now 0 0 in
    let a = c.put_columns-first.ensures in
    let k = simp length_columns at a.counted in
    let offsets = appended_offsets a in
    let present = appended_present a in
    record {
      bytes_in_bounds = appended_within a;
      from_in_bounds = omega (arith, c.requires.cols_in_bounds);
      from_in_bounds_2 = omega (arith, c.requires.cols_in_bounds_2);
    }

pub shape_of-offsets : goal.shape_of-offsets
shape_of-offsets c = appended_offsets c.put_columns.ensures ∙ appended_offsets c.put_columns-first.ensures ∙ length-set c.args.offsets.now 0 0

pub returns : goal.returns
returns c = let g = c.args in
    glues_laid g.rows g.cols g.strands g.own.now g.grid.now c.put_columns-first.ensures c.put_columns.ensures
