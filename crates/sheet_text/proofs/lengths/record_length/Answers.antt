-- `lengths::record_length` meets its contract. Assumes nothing.
use mathlib.Core.List.{List, ◌++◌}
use mathlib.Core.Path.{ap, ◌∙◌}
use Prim.Native.Nat.{ℕ, ◌+◌, ◌-◌}
use lib.ListN.{length}
use Rattle.bay_lists.specs.Lists.{constraints_of, list_of}
use Rattle.sheet_text.specs.Written.{spaced, separator, row_text}
use Rattle.sheet_text.specs.Lengths.{capped}
use Rattle.sheet_text.proofs.Parts.{fields_from, fields_all, fields_next, fields_none}
use Rattle.sheet_text.proofs.Sums.{summing_starts, summing_goes_on, summing_ends, sum_of_two}
use Rattle.sheet_text.proofs.lengths.record_length.Goals as goal

pub loop-column-init : goal.loop-column-init
loop-column-init c = let a = c.args in
    let lists = constraints_of a.lists.now in
    rw (fields_all lists a.first a.columns) (summing_starts (row_text lists a.first a.columns))

pub loop-column-preserved : goal.loop-column-preserved
loop-column-preserved c = let a = c.args in
    let lists = constraints_of a.lists.now in
    let s = c.loop-column in
    let field = spaced 0 (list_of lists (a.first + s.column)) in
    let two = sum_of_two field (separator (a.columns - s.column - 1)) c.field_length-field.result (length c.separator-end.result.now) c.saturating_add.result
    (c.field_length-field.ensures ∙ ap (λ (l : List ℕ). capped (length (spaced 0 l))) c.bay_list.ensures) (ap length c.separator-end.ensures) c.saturating_add.ensures in
    summing_goes_on s.invariant (field ++ separator (a.columns - s.column - 1)) (fields_from lists a.first a.columns (s.column + 1)) (fields_next lists a.first a.columns s.column c.loop-column-test.true)
    c.saturating_add.result c.saturating_add-total.result two c.saturating_add-total.ensures

pub returns : goal.returns
returns c = let a = c.args in
    let s = c.loop-column in summing_ends s.invariant (fields_none (constraints_of a.lists.now) a.first a.columns s.column c.loop-column-test.false)
