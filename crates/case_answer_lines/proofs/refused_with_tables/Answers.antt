-- `case_answer_lines::refused_with_tables` meets its contract: the word for the tables is put after the refusal. Assumes nothing.
use mathlib.Core.Bool.{Bool}
use mathlib.Core.List.{◌++◌}
use mathlib.Core.Path.{sym, ap}
use Rattle.case_answer_lines.specs.Lines.{refused_text, tables_text}
use Rattle.text_put.proofs.Putting.{put_as, then_put}
use Rattle.case_answer_lines.proofs.refused_with_tables.Goals as goal

pub returns-then-kept : goal.returns-then-kept
returns-then-kept c = let r = c.args.refusal in
    put_as (ap (λ (b : Bool). refused_text r ++ tables_text b) (sym c.if-kept.true)) (then_put c.refused-at.ensures c.put_text.ensures)

pub returns : goal.returns
returns c = let r = c.args.refusal in
    put_as (ap (λ (b : Bool). refused_text r ++ tables_text b) (sym c.if-kept.false)) (then_put c.refused-at.ensures c.put_text-2.ensures)
