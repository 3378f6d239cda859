-- `sheet_strands::put_names` meets its contract: `null` is put, and the sheet's names are appended to it. Assumes nothing.
use native.Mathlib.Omega.{arith}
use lib.ListN.{length-set}
use Rattle.text_put.proofs.Putting.{put_within}
use Rattle.name_strands.specs.Names.{null_name}
use Rattle.sheet_records.specs.Tables.{columns}
use Rattle.sheet_names.specs.Appended.{flag_of}
use Rattle.sheet_names.proofs.Appending.{appended_offsets, appended_present}
use Rattle.sheet_strands.specs.Strands.{names_of}
use Rattle.sheet_names.proofs.FrontFilling.{filled_after}
use mathlib.Core.Path.{refl, ◌∙◌}
use Rattle.sheet_strands.proofs.put_names.Goals as goal

pub bounds-offsets-1 : goal.bounds-offsets-1
bounds-offsets-1 c = simp length-set (omega arith)

pub put_columns-requires : goal.put_columns-requires
put_columns-requires c = let pre = c.requires in
    record {
      bytes_in_bounds = put_within c.put_text-bytes.ensures;
      from_in_bounds = simp length-set (omega arith);
      from_in_bounds_2 = simp length-set (omega arith);
    }

pub shape_of-offsets : goal.shape_of-offsets
shape_of-offsets c = appended_offsets c.put_columns.ensures ∙ simp length-set

pub shape_of-present : goal.shape_of-present
shape_of-present c = appended_present c.put_columns.ensures ∙ simp length-set

pub returns : goal.returns
unfolding names_of flag_of
returns c = let a = c.args in
    filled_after a.text.now a.offsets.now a.present.now null_name (columns a.records 7 0 1 a.sheet.now) refl c.put_text-bytes.ensures c.put_columns.ensures
