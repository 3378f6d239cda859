-- `sheet_names::fill_columns` meets its contract: the columns are appended to no entries. Assumes nothing.
use mathlib.Core.Path.{◌∙◌}
use native.Mathlib.Omega.{arith}
use lib.ListN.{length-set}
use Rattle.sheet_records.specs.Tables.{columns}
use Rattle.sheet_names.proofs.Appending.{appended_offsets}
use Rattle.sheet_names.proofs.FrontFilling.{filled}
use Rattle.sheet_names.proofs.fill_columns.Goals as goal

pub put_columns-requires : goal.put_columns-requires
put_columns-requires c = let pre = c.requires in
    let long = length-set c.args.offsets.now 0 c.args.bytes in
    record {
      bytes_in_bounds = pre.bytes_in_bounds;
      from_in_bounds = omega arith;
      from_in_bounds_2 = omega arith;
    }

pub shape_of-offsets : goal.shape_of-offsets
shape_of-offsets c = appended_offsets c.put_columns.ensures ∙ simp length-set

pub returns : goal.returns
returns c = let a = c.args in
    filled a.offsets.now a.bytes (columns a.records a.wanted.width a.wanted.from a.wanted.count a.text.now) c.put_columns.ensures
