-- `case_answer_lines::refused` meets its contract: the values of the variant are put after the number. Assumes nothing.
use Rattle.std.proofs.Common.{rules}
use Rattle.text_put.proofs.Putting.{put_as, then_put}
use Rattle.case_answer_lines.proofs.Refusing.{no_values, one_value, two_values}
use Rattle.case_answer_lines.proofs.refused.Goals as goal

-- A variant without a value: the number ends the line. Those that have none share an arm,
-- which is named after the first of them.
pub returns-in-Size : goal.returns-in-Size
returns-in-Size c = put_as (no_values c.args.refusal _ c.number.ensures (search rules)) c.put_value-at.ensures

pub returns-in-Glue : goal.returns-in-Glue
returns-in-Glue c = put_as (one_value c.args.refusal _ c.number.ensures _ (search rules)) (then_put c.put_value-at.ensures c.put_value.ensures)

pub returns-in-Letter : goal.returns-in-Letter
returns-in-Letter c = put_as (two_values c.args.refusal _ c.number.ensures _ _ (search rules))
    (then_put c.put_value-at.ensures (then_put c.put_value-next.ensures c.put_value-in-Letter.ensures))
