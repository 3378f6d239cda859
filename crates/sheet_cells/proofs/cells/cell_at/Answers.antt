-- `cells::cell_at` meets its contract: the bytes between the field's places stand for its content. Assumes nothing.
use mathlib.Core.Path.{◌≡◌, sym, ap, ◌∙◌}
use Rattle.std.specs.Prelude.{Some, None}
use Rattle.sheet_fields.specs.Fields.{field_at}
use Rattle.sheet_fields.specs.Answers.{field_answer}
use Rattle.sheet_number_lists.specs.Counts.{list_count}
use Rattle.sheet_cells.proofs.Records.{cell_broken, cell_other, cell_found}
use Rattle.sheet_cells.proofs.cells.cell_at.Goals as goal

pub returns-in_err-field : goal.returns-in_err-field
returns-in_err-field c = let a = c.args in
    let none : None ≡ field_answer (field_at a.text.now a.at) = cc c.in_err-field.was in
    c.from_residual.ensures ∙ cell_broken a.text.now a.at none

pub returns-in_err-count : goal.returns-in_err-count
returns-in_err-count c = let a = c.args in
    let some : Some c.in_ok-field.field ≡ field_answer (field_at a.text.now a.at) = cc c.in_ok-field.was in
    let none : None ≡ list_count c.raw.result.now = sym c.in_err-count.was ∙ c.count_numbers.ensures in
    c.from_residual-in_err-count.ensures ∙ cell_other a.text.now a.at c.in_ok-field.field some (none ∙ ap list_count c.raw.ensures)

pub returns : goal.returns
returns c = let a = c.args in
    let f = c.in_ok-field.field in
    let some : Some f ≡ field_answer (field_at a.text.now a.at) = cc c.in_ok-field.was in
    let list : Some c.in_ok-count.count ≡ list_count c.raw.result.now = sym c.in_ok-count.was ∙ c.count_numbers.ensures in
    cell_found a.text.now a.at f some c.in_ok-count.count (list ∙ ap list_count c.raw.ensures)
