-- `case_strand_names::answer` meets its contract: the call's name is tested, and no other call is answered; the answer lies in the lent text. Assumes nothing.
use mathlib.Core.Path.{sym, ◌∙◌}
use borrow.Author.Rules.{rules}
use Rattle.case_strand_names.proofs.answer.Goals as goal

pub returns-then-same : goal.returns-then-same
returns-then-same c = (rw (← c.call_name-call.ensures, sym c.same.ensures ∙ c.if-same.true), search rules)

pub returns-then-same-2 : goal.returns-then-same-2
returns-then-same-2 c = (rw (← c.call_name-call.ensures, sym c.same.ensures ∙ c.if-same.false, sym c.same-2.ensures ∙ c.if-same-2.true), search rules)

pub returns : goal.returns
returns c = (rw (← c.call_name-call.ensures, sym c.same.ensures ∙ c.if-same.false, sym c.same-2.ensures ∙ c.if-same-2.false), search rules)
