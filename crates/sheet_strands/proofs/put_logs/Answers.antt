-- `sheet_strands::put_logs` meets its contract: the part behind the first number is lent. Assumes nothing.
use mathlib.Core.List.{map}
use native.Mathlib.Omega.{arith}
use lib.ListN.{length-set, length-take, length-drop}
use Rattle.sheet_numbers.specs.Floats.{value_as}
use Rattle.sheet_numbers.specs.declared.float_column.Kind.TheVariants.{Logarithms}
use Rattle.sheet_strands.specs.Strands.{log_fields, log_fault}
use Rattle.sheet_strands.proofs.Logs.{logs_put, long_behind}
use Rattle.sheet_strands.proofs.put_logs.Goals as goal

pub slice_bounds-put_floats-count : goal.slice_bounds-put_floats-count
slice_bounds-put_floats-count c = simp length-set (omega arith)

pub slice_bounds-put_floats-start : goal.slice_bounds-put_floats-start
slice_bounds-put_floats-start c = simp length-set (omega arith)

pub put_floats-requires : goal.put_floats-requires
put_floats-requires c = simp (length-take, length-drop, length-set) (omega arith)

pub shape_of-logs : goal.shape_of-logs
shape_of-logs c = let a = c.args in
    long_behind a.logs.now _ (map (value_as Logarithms) (log_fields a.records a.sheet.now)) _ (omega arith) c.put_floats.ensures.out_after

pub returns : goal.returns
unfolding log_fault
returns c = let a = c.args in
    record {
      value = c.put_floats.ensures.value;
      logs_after = logs_put a.logs.now a.records a.sheet.now _ c.requires c.put_floats.ensures.out_after;
    }
