-- `case_system_calls::answer` meets its contract: the call's name is tested, and no other call is answered. Assumes nothing.
use mathlib.Core.Path.{sym, ◌∙◌}
use Rattle.case_system_calls.proofs.answer.Goals as goal

pub returns-then-is_known : goal.returns-then-is_known
returns-then-is_known c = rw (← c.call_name.ensures, sym c.is_known.ensures ∙ c.if-is_known.true)

pub returns : goal.returns
returns c = rw (← c.call_name.ensures, sym c.is_known.ensures ∙ c.if-is_known.false)
