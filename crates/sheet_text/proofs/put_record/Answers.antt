-- `sheet_text::put_record` meets its contract. Assumes nothing.
use mathlib.Core.Path.{ap}
use mathlib.Core.List.{◌++◌}
use Prim.Native.Nat.{◌+◌, ◌-◌}
use Rattle.text_put.proofs.Putting.{then_put, put_as, ending_starts, ending_goes_on, ending_ends}
use Rattle.bay_lists.specs.Lists.{constraints_of, list_of}
use Rattle.sheet_text.specs.Written.{spaced, separator, row_text}
use Rattle.sheet_text.proofs.Parts.{fields_from, fields_all, fields_next, fields_none}
use Rattle.sheet_text.proofs.put_record.Goals as goal

pub loop-column-init : goal.loop-column-init
loop-column-init c = let a = c.args in
    let lists = constraints_of a.lists.now in
    rw (fields_all lists a.first a.columns) (ending_starts (row_text lists a.first a.columns) c.requires.at_in_bounds)

pub loop-column-preserved : goal.loop-column-preserved
loop-column-preserved c = let a = c.args in
    let lists = constraints_of a.lists.now in
    let s = c.loop-column in
    ending_goes_on s.invariant (spaced 0 (list_of lists (a.first + s.column)) ++ separator (a.columns - s.column - 1)) (fields_from lists a.first a.columns (s.column + 1))
    (fields_next lists a.first a.columns s.column c.loop-column-test.true)
    (then_put (put_as (ap (spaced 0) c.bay_list.ensures) c.put_field-end.ensures) (put_as c.separator.ensures c.put_text-next.ensures))

pub returns : goal.returns
returns c = let a = c.args in
    let s = c.loop-column in ending_ends s.invariant (fields_none (constraints_of a.lists.now) a.first a.columns s.column c.loop-column-test.false)
