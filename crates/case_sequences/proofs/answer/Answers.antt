-- `case_sequences::answer` meets its contract: the call's name is tested, and no other call is answered; the answer lies in the lent text. Assumes nothing.
use mathlib.Core.Path.{sym, ◌∙◌}
use borrow.Author.Rules.{rules}
use Rattle.case_sequences.proofs.answer.Goals as goal

pub returns-then-is_on_one : goal.returns-then-is_on_one
returns-then-is_on_one c = (rw (← c.call_name-call.ensures, sym c.is_on_one.ensures ∙ c.if-is_on_one.true), search rules)

pub returns-then-same : goal.returns-then-same
returns-then-same c = (rw (← c.call_name-call.ensures, sym c.is_on_one.ensures ∙ c.if-is_on_one.false, sym c.same.ensures ∙ c.if-same.true), search rules)

pub returns : goal.returns
returns c = (rw (← c.call_name-call.ensures, sym c.is_on_one.ensures ∙ c.if-is_on_one.false, sym c.same.ensures ∙ c.if-same.false), search rules)
